-- A split over all owners, and the cells after it.
-- Assumes nothing.
use Prim.Native.Nat.{ℕ, ◌+◌, ◌-◌, ◌≤◌, ◌<◌}
use mathlib.Core.Path.{◌≡◌, refl, sym, ap, ap₂, ◌∙◌}
use mathlib.Core.Bool.{false}
use mathlib.Core.List.{List}
use native.Mathlib.Omega.{arith}
use lib.ListN.{length, get_or}
use lib.IntN.{ℤ, pos, ◌+ℤ◌, ◌-ℤ◌}
use borrow.Author.Differences.{ints}
use Rattle.numbers.specs.Limits.{owners, most_cents}
use Rattle.numbers.specs.Lists.{total}
use Rattle.numbers.proofs.Refusals.{has_number, refusal_never}
use Rattle.numbers.proofs.Counts.{get_or_le_total, list_of_elements, list_below_ext, total_add, total_mono}
use Rattle.split.specs.Split.{split_refusal}
use Rattle.split.proofs.Answers.{accepted, scope_rows, widest_table}
use Rattle.settlement.specs.declared.payment.Paid.{Paid}
use Rattle.settlement.specs.Events.{hall, payout, unpaid_of, added_to}
use Rattle.settlement.specs.InnerContracts.{paid_from}
use Rattle.settlement.proofs.Payouts.{payout_length, payout_at_most, payout_closes}

-- what is unpaid is no more than what was wanted
pub unpaid_small : (wants payments : List ℕ) → length wants ≡ owners → total (unpaid_of wants payments) ≤ total wants
unfolding unpaid_of
unpaid_small wants payments all =
    let each = total_mono (λ i. get_or wants i 0 - get_or payments i 0) (λ i. get_or wants i 0) owners (λ i l. omega arith) in
    omega (arith, ap total (list_of_elements wants 0 all))

-- it is all but what is paid
unpaid_and_paid : (wants payments : List ℕ) → ((i : ℕ) → get_or payments i 0 ≤ get_or wants i 0) → length wants ≡ owners
    → length payments ≡ owners → total (unpaid_of wants payments) + total payments ≡ total wants
unfolding unpaid_of
unpaid_and_paid wants payments most all both =
    let parts = total_add (λ i. get_or wants i 0 - get_or payments i 0) (λ i. get_or payments i 0) owners in
    let whole =
    list_below_ext (λ i. get_or wants i 0 - get_or payments i 0 + get_or payments i 0) (λ i. get_or wants i 0) owners
    (λ i inside. omega (arith, most i)) in
    omega (arith, parts, ap total whole, ap total (list_of_elements payments 0 both), ap total (list_of_elements wants 0 all))

-- of any fund: so it is the wants but for what is not left of the fund
pub unpaid_is : (fund : ℤ) (wants : List ℕ) → length wants ≡ owners
    → pos (total (unpaid_of wants (payout fund wants).payments)) +ℤ (fund -ℤ (payout fund wants).left) ≡ pos (total wants)
unpaid_is fund wants all =
    let closes = payout_closes fund wants in
    let parts = unpaid_and_paid wants (payout fund wants).payments (payout_at_most fund wants) all (payout_length fund wants ∙ all) in
    omega (arith, ints, closes, parts)

-- cells with something added come to both sums
pub added_total : (cells more : List ℕ) → length cells ≡ owners → length more ≡ owners → total (added_to cells more) ≡ total cells + total more
unfolding added_to
added_total cells more all both =
    total_add (λ i. get_or cells i 0) (λ i. get_or more i 0) owners
    ∙ ap₂ (λ (m n : ℕ). m + n) (ap total (list_of_elements cells 0 all)) (ap total (list_of_elements more 0 both))

-- a split over 64 wants that come to no more than the hall takes is not refused
pub not_refused : (wants : List ℕ) → length wants ≡ owners → total wants ≤ most_cents → split_refusal hall wants owners ≡ 0
not_refused wants all small = accepted hall wants owners (omega arith) (omega arith) refl (omega arith) small small

-- and the hall never sees 16 or 17, whatever is split
pub never_of_the_pool : (wants : List ℕ) (places : ℕ)
    → (split_refusal hall wants places ≡ 16 → ⊥) × (split_refusal hall wants places ≡ 17 → ⊥)
never_of_the_pool wants places = (never 16 (omega arith) refl, never 17 (omega arith) refl)
  where
    never : (number : ℕ) → 0 < number → has_number number (scope_rows wants places) ≡ false → split_refusal hall wants places ≡ number → ⊥
    never number some none e = refusal_never number (scope_rows wants places) some none (sym (widest_table wants places) ∙ e)

-- payments, what is left and what is unpaid, put together
pub put_together : {fund : ℤ} (wants : List ℕ) {given : ℤ} {demand : ℕ} {rest : ℤ} {paid unpaid : List ℕ} → given ≡ fund → demand ≡ total wants
    → rest ≡ (payout given wants).left → paid ≡ (payout given wants).payments → unpaid ≡ unpaid_of wants paid
    → ◌≡◌ {A = Paid}
    (record { funding = record { fund = given; demand = demand }; left = rest; payments = paid; unpaid = unpaid })
    (paid_from fund wants)
put_together wants f d l p u =
    let payments = p ∙ ap (λ (z : ℤ). (payout z wants).payments) f in
    λ i.
    record {
      funding = record { fund = f i; demand = d i };
      left = (l ∙ ap (λ (z : ℤ). (payout z wants).left) f) i;
      payments = payments i;
      unpaid = (u ∙ ap (unpaid_of wants) payments) i;
    }

-- no payment is above what there was to want
module _ (fund : ℤ) (wants : List ℕ) where
  pub payment_small : (most : ℕ) → total wants ≤ most → (i : ℕ) → get_or (payout fund wants).payments i 0 ≤ most
  payment_small most within i = omega (arith, payout_at_most fund wants i, get_or_le_total wants i)

  pub paid_small : {paid : Paid} → paid ≡ paid_from fund wants → total wants ≤ most_cents → (i : ℕ) → get_or paid.payments i 0 ≤ most_cents
  paid_small p within i = rw p (payment_small most_cents within i)
