-- The end of a month or of the year: what the rows of every event let pass, and that its payments fit the book.
-- Assumes nothing.
use Prim.Native.Nat.{ℕ, ◌+◌, ◌≤◌, ◌<◌, ◌^◌}
use mathlib.Core.Path.{◌≡◌, refl, sym, ap, subst, ◌∙◌}
use mathlib.Core.Bool.{false}
use native.Mathlib.Omega.{arith}
use lib.ListN.{length, get_or}
use lib.IntN.{◌+ℤ◌}
use borrow.Author.Differences.{ints}
use Rattle.std.proofs.Common.{w64, FitsSigned}
use Rattle.std.specs.Prelude.{Result, Ok}
use Rattle.numbers.specs.declared.refusal.Refusal.{Refusal}
use Rattle.numbers.specs.Limits.{owners, most_cents}
use Rattle.numbers.specs.Lists.{total}
use Rattle.numbers.specs.Refusals.{answered, first_refusal}
use Rattle.numbers.proofs.Counts.{get_or_le_total}
use Rattle.numbers.proofs.Refusals.{answered_ok}
use Rattle.settlement.specs.declared.End.{End}
use Rattle.settlement.specs.declared.End.TheVariants.{Month, Year}
use Rattle.settlement.specs.declared.Event.{Event}
use Rattle.settlement.specs.declared.payment.Paid.{Paid}
use Rattle.settlement.specs.Book.{Book, is_spoiled, all_shortfalls}
use Rattle.settlement.specs.Ends.{end_call, event_at}
use Rattle.settlement.specs.Events.{payout, paid, payment_lines, lines, event_rows, own_rows, refusal, record_of}
use Rattle.settlement.specs.InnerContracts.{paid_from}
use Rattle.settlement.proofs.Balances.{InBounds, IsLeft, left_in_bounds, bounds_fit}
use Rattle.settlement.proofs.NotSpoiled.{in_step, months_within, few_hours, shortfalls_within, balances_within}
use Rattle.settlement.proofs.Paying.{unpaid_small}
use Rattle.settlement.proofs.Payouts.{left_between}
use Rattle.settlement.proofs.Refusing.{event_clear, event_alone}

-- its rows are those of every event, and its refusals name no record
end_turn : (end : End) (book : Book) (places : ℕ)
    → first_refusal (event_rows (event_at end) book places) ≡ refusal (end_call end) book places
unfolding own_rows
end_turn Month book places = event_alone (end_call Month) book places refl
end_turn Year book places = event_alone (end_call Year) book places refl

pub end_names : (end : End) (year number : ℕ) → 0 ≡ record_of (end_call end) year number
unfolding record_of
end_names Month year number = refl
end_names Year year number = refl

-- its lines are what it pays
pub end_lines : (end : End) (book : Book) → payment_lines (paid (end_call end) book) ≡ lines (end_call end) book
unfolding lines
end_lines Month book = refl
end_lines Year book = refl

-- the refusal of the code's event
pub end_refusal : (end : End) {event : Event} (book : Book) (places : ℕ) → event ≡ event_at end
    → first_refusal (event_rows event book places) ≡ refusal (end_call end) book places
end_refusal end book places is = ap (λ (e : Event). first_refusal (event_rows e book places)) is ∙ end_turn end book places

-- an end that is let pass
pub record Passed (end : End) (book : Book) (places : ℕ) : Type 0 where
  pub accepted : refusal (end_call end) book places ≡ 0
  pub sound : is_spoiled book ≡ false
  pub lent : places ≡ owners

pub passed : (end : End) {event : Event} (book : Book) (places : ℕ) {outcome : Result ℕ Refusal} {carry : ℕ} → event ≡ event_at end
    → outcome ≡ answered (first_refusal (event_rows event book places)) 0 (all_shortfalls book) → outcome ≡ Ok carry → Passed end book places
passed end {event} book places is outcome ok =
    let none = (answered_ok _ 0 (all_shortfalls book) (sym outcome ∙ ok)).0 in
    let clear = event_clear event book places none in
    record { accepted = sym (end_refusal end book places is) ∙ none; sound = clear.0; lent = clear.3 }

module _ {end : End} {book : Book} {places : ℕ} (pass : Passed end book places) where
  pub within : all_shortfalls book ≤ most_cents
  within = shortfalls_within book pass.sound

  -- what the month pays leaves room in the year's cells and in the year's balance
  module _ {paid : Paid} (p : paid ≡ paid_from book.monthbalance book.monthshort) where
    pub cells_fit : length book.monthshort ≡ owners → (i : ℕ) → get_or book.yearshort i 0 + get_or paid.unpaid i 0 < 2 ^ 64
    cells_fit all i =
        let small = unpaid_small book.monthshort (payout book.monthbalance book.monthshort).payments all in
        omega (arith, small, within, ap (λ (x : Paid). total x.unpaid) p, get_or_le_total book.yearshort i, get_or_le_total paid.unpaid i)

    pub month_fits : (book.months + 1 < 2 ^ 64) × FitsSigned w64 (book.yearbalance +ℤ paid.left)
    month_fits =
        let bounded = balances_within book pass.sound in
        let months = months_within book.year book.hours book.months book.ended (in_step book pass.sound) in
        let left =
        left_in_bounds book.hours book.yearbalance book.monthbalance paid.left bounded.year
        (subst (InBounds book.hours) (omega (arith, ints)) bounded.both)
        (subst (IsLeft book.monthbalance) (sym (ap (λ (x : Paid). x.left) p)) (left_between book.monthbalance book.monthshort)) in
        (omega arith, bounds_fit book.hours (book.yearbalance +ℤ paid.left) (omega (arith, few_hours book pass.sound)) left)
