-- What an event pays and leaves, for any F: the split's laws where F is at least 0; nobody is paid where it is negative.
-- Assumes nothing.
use Prim.Native.Nat.{ℕ, zero, suc, ◌≤◌, ◌<◌}
use mathlib.Core.Path.{◌≡◌, refl, ap, subst, sym}
use mathlib.Core.Logic.{inl, inr}
use mathlib.Core.List.{List}
use native.Mathlib.Omega.{arith}
use lib.ListN.{length, get_or, replicate, length-replicate}
use lib.IntN.{ℤ, pos, negsuc, nat_abs, ◌+ℤ◌}
use lib.Signed.{◌≤ℤ◌, ◌<ℤ◌}
use borrow.Author.Differences.{ints}
use Rattle.numbers.specs.Lists.{total}
use Rattle.split.specs.Split.{payments, left}
use Rattle.split.proofs.Laws.{payments_length, payment_at, payments_at_most, closes, closes_enough, nothing_left, within_a_cent}
use Rattle.settlement.specs.Events.{payout}
use Rattle.settlement.specs.Claim.{IsNear}
use Rattle.settlement.proofs.Balances.{IsLeft}

-- payments of nothing
pub nothing_to : (n i : ℕ) → get_or {A = ℕ} (replicate n 0) i 0 ≡ 0
nothing_to zero i = refl
nothing_to (suc n) zero = refl
nothing_to (suc n) (suc i) = nothing_to n i

nothing_in_all : (n : ℕ) → total (replicate n 0) ≡ 0
unfolding total
nothing_in_all zero = refl
nothing_in_all (suc n) = omega (arith, nothing_in_all n)

-- a negative F, and one of at least 0
pub payout_none : (fund : ℤ) (wants : List ℕ) → fund <ℤ pos 0 → payout fund wants ≡ record { payments = replicate (length wants) 0; left = fund }
unfolding payout
payout_none (pos fund) wants below = absurd (omega (arith, ints))
payout_none (negsuc below) wants _ = refl

pub payout_split : (fund : ℤ) (wants : List ℕ) → pos 0 ≤ℤ fund
    → payout fund wants ≡ record { payments = payments (nat_abs fund) wants; left = pos (left (nat_abs fund) wants) }
unfolding payout
payout_split (pos fund) wants _ = refl
payout_split (negsuc below) wants enough = absurd (omega (arith, ints))

pub payout_length : (fund : ℤ) (wants : List ℕ) → length (payout fund wants).payments ≡ length wants
unfolding payout
payout_length (pos fund) wants = payments_length fund wants
payout_length (negsuc below) wants = length-replicate {A = ℕ} (length wants) 0

pub payout_at_most : (fund : ℤ) (wants : List ℕ) (i : ℕ) → get_or (payout fund wants).payments i 0 ≤ get_or wants i 0
unfolding payout
payout_at_most (pos fund) wants i = payments_at_most fund wants i
payout_at_most (negsuc below) wants i = omega (arith, nothing_to (length wants) i)

-- payments and what is left make up F
pub payout_closes : (fund : ℤ) (wants : List ℕ) → pos (total (payout fund wants).payments) +ℤ (payout fund wants).left ≡ fund
unfolding payout
payout_closes (pos fund) wants = ap pos (closes fund wants)
payout_closes (negsuc below) wants = omega (arith, ints, nothing_in_all (length wants))

-- every want is paid, or no more than nothing is left
pub payout_enough : (fund : ℤ) (wants : List ℕ) → pos (total wants) ≤ℤ fund → (payout fund wants).payments ≡ wants
unfolding payout
payout_enough (pos fund) wants enough = (closes_enough fund wants (omega (arith, ints))).0
payout_enough (negsuc below) wants enough = absurd (omega (arith, ints))

pub payout_short : (fund : ℤ) (wants : List ℕ) → fund <ℤ pos (total wants) → (payout fund wants).left ≤ℤ pos 0
unfolding payout
payout_short (pos fund) wants short =
    let none = nothing_left fund wants (omega (arith, ints)) in
    omega (arith, ints)
payout_short (negsuc below) wants short = omega (arith, ints)

pub left_between : (fund : ℤ) (wants : List ℕ) → IsLeft fund (payout fund wants).left
unfolding payout
left_between (pos fund) wants = let all = closes fund wants in inl (omega (arith, ints), omega (arith, ints))
left_between (negsuc below) wants = inr (omega (arith, ints), refl)

-- "less than one cent from" the exact share
pub payout_near : (fund : ℤ) (wants : List ℕ) (i : ℕ) → i < length wants
    → IsNear fund (total wants) (get_or wants i 0) (get_or (payout fund wants).payments i 0)
unfolding payout
payout_near (pos fund) wants i inside =
    subst (IsNear (pos fund) (total wants) (get_or wants i 0)) (sym (payment_at fund wants i inside)) (within_a_cent fund wants i)
payout_near (negsuc below) wants i inside = nothing_to (length wants) i
