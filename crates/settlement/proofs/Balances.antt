-- The bounds of a balance by the hours settled, and that what an event leaves keeps them.
-- Assumes nothing.
use Prim.Native.Nat.{ℕ, ◌+◌, ◌≤◌}
use mathlib.Core.Path.{◌≡◌, refl, sym, ap, ap₂, ◌∙◌}
use mathlib.Core.Bool.{false}
use mathlib.Core.Logic.{◌⊎◌, inl, inr}
use native.Mathlib.Omega.{arith}
use lib.IntN.{ℤ, pos, ◌+ℤ◌, ◌*ℤ◌}
use lib.Signed.{lt_z, ◌≤ℤ◌, ◌<ℤ◌}
use borrow.Author.Differences.{ints}
use Rattle.std.proofs.Common.{w64, FitsSigned, to_z, of_z}
use Rattle.std.proofs.lemmas.Int.{to_z-of_z, to_z_pos}
use Rattle.numbers.specs.Limits.{most_cents}
use Rattle.numbers.proofs.Booleans.{neither_true}
use Rattle.calendar.proofs.AlmanacLaws.{most_hours}
use Rattle.settlement.specs.Book.{Book, fund_left, least_collected, most_collected, most_brought, is_out_of_bounds}
use Rattle.settlement.specs.Events.{is_wild_amount}

-- "lie between hours times -4,000,000,000 and hours times 4,004,000,000,000"
pub record InBounds (hours : ℕ) (balance : ℤ) : Type 0 where
  pub least : (pos hours *ℤ least_collected) ≤ℤ balance
  pub most : balance ≤ℤ (pos hours *ℤ most_brought)

-- "each balance, and the two together"
pub record Bounded (book : Book) : Type 0 where
  pub month : InBounds book.hours book.monthbalance
  pub year : InBounds book.hours book.yearbalance
  pub both : InBounds book.hours (fund_left book)

pub in_bounds : (hours : ℕ) (balance : ℤ) → is_out_of_bounds hours balance ≡ false → InBounds hours balance
in_bounds hours balance clear =
    let both = neither_true (lt_z balance (pos hours *ℤ least_collected)) (lt_z (pos hours *ℤ most_brought) balance) clear in
    record { least = omega (arith, ints, both.0); most = omega (arith, ints, both.1) }

pub bounds_clear : (hours : ℕ) (balance : ℤ) → InBounds hours balance → is_out_of_bounds hours balance ≡ false
bounds_clear hours balance within =
    let low : false ≡ lt_z balance (pos hours *ℤ least_collected) = omega (arith, ints, within.least) in
    let high : false ≡ lt_z (pos hours *ℤ most_brought) balance = omega (arith, ints, within.most) in
    rw (sym low, sym high) refl

-- what is left lies between nothing and an F of at least 0, and is all of a negative one
abbrev pub IsLeft : ℤ → ℤ → Type 0
IsLeft fund left = ((pos 0 ≤ℤ left) × (left ≤ℤ fund)) ⊎ ((fund <ℤ pos 0) × (left ≡ fund))

-- no balance at all
pub nothing_in_bounds : (hours : ℕ) → InBounds hours (pos 0)
nothing_in_bounds hours = record { least = omega (arith, ints); most = omega (arith, ints) }

-- a balance and what is left of another, where the two balances together are in bounds too
pub left_in_bounds : (hours : ℕ) (balance fund left : ℤ) → InBounds hours balance → InBounds hours (balance +ℤ fund)
    → IsLeft fund left → InBounds hours (balance +ℤ left)
left_in_bounds hours balance fund left one both (inl between) =
    record {
      least = omega (arith, ints, one.least, between.0);
      most = omega (arith, ints, both.most, between.1);
    }
left_in_bounds hours balance fund left one both (inr all) =
    record {
      least = omega (arith, ints, both.least, all.1);
      most = omega (arith, ints, both.most, all.1);
    }

-- one hour more, whose F is in the bounds of one hour
pub hour_in_bounds : (hours : ℕ) (balance fund left : ℤ) → InBounds hours balance → InBounds 1 fund
    → IsLeft fund left → InBounds (hours + 1) (balance +ℤ left)
hour_in_bounds hours balance fund left before one (inl between) =
    record {
      least = omega (arith, ints, before.least, between.0);
      most = omega (arith, ints, before.most, one.most, between.1);
    }
hour_in_bounds hours balance fund left before one (inr all) =
    record {
      least = omega (arith, ints, before.least, one.least, all.1);
      most = omega (arith, ints, before.most, one.most, all.1);
    }

-- a balance that an hour leaves as it is
pub longer_bounds : (hours : ℕ) (balance : ℤ) → InBounds hours balance → InBounds (hours + 1) balance
longer_bounds hours balance before = record { least = omega (arith, ints, before.least); most = omega (arith, ints, before.most) }

-- an hour's F is in the bounds of one hour
pub fund_in_bounds : (collected : ℤ) (charges : ℕ) → is_wild_amount collected ≡ false → charges ≤ most_cents
    → InBounds 1 (collected +ℤ pos charges)
fund_in_bounds collected charges calm few =
    let both = neither_true (lt_z collected least_collected) (lt_z most_collected collected) calm in
    record { least = omega (arith, ints, both.0); most = omega (arith, ints, both.1, few) }

-- a balance of a book fits 64 bits with room for more
pub bounds_fit : (hours : ℕ) (balance : ℤ) → hours ≤ most_hours + 1 → InBounds hours balance → FitsSigned w64 balance
bounds_fit hours balance few within = omega (arith, ints, within.least, within.most)

-- and so does the sum of two
pub sum_fits : (hours : ℕ) (one other : ℤ) → hours ≤ most_hours → is_out_of_bounds hours one ≡ false → is_out_of_bounds hours other ≡ false
    → FitsSigned w64 (one +ℤ other)
sum_fits hours one other few clear both =
    let a = in_bounds hours one clear in
    let b = in_bounds hours other both in
    omega (arith, ints, a.least, a.most, b.least, b.most)

-- an hour's F, as the code has it: each amount is read back from its bits
pub brought_back : (collected : ℤ) (charges : ℕ) {cast : ℤ} → FitsSigned w64 collected → is_wild_amount collected ≡ false
    → charges ≤ most_cents → cast ≡ to_z w64 charges
    → to_z w64 (of_z w64 (to_z w64 (of_z w64 collected) +ℤ to_z w64 (of_z w64 cast))) ≡ collected +ℤ pos charges
brought_back collected charges {cast} fits calm few is =
    let one = to_z-of_z w64 collected fits in
    let charged : cast ≡ pos charges = is ∙ to_z_pos w64 charges (omega (arith, few)) in
    let other = to_z-of_z w64 cast (omega (arith, ints, few)) ∙ charged in
    let within = fund_in_bounds collected charges calm few in
    ap (λ (z : ℤ). to_z w64 (of_z w64 z)) (ap₂ (λ (a b : ℤ). a +ℤ b) one other)
    ∙ to_z-of_z w64 (collected +ℤ pos charges) (bounds_fit 1 (collected +ℤ pos charges) (omega arith) within)
