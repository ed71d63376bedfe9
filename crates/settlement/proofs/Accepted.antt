-- What an accepted call shows: no row of its refusal table holds.
-- Assumes nothing.
use Prim.Native.Nat.{ℕ, ◌≤◌, ◌<◌}
use mathlib.Core.Path.{◌≡◌, sym, ◌∙◌}
use mathlib.Core.Bool.{true, false}
use mathlib.Core.List.{List}
use native.Mathlib.Omega.{arith}
use lib.IntN.{ℤ}
use borrow.Author.Tests.{ltb-false, not-false}
use Rattle.numbers.specs.Limits.{most_cents}
use Rattle.numbers.specs.Lists.{total}
use Rattle.numbers.specs.Refusals.{first_refusal}
use Rattle.numbers.proofs.Refusals.{refusal_both}
use Rattle.calendar.specs.Year.{hours_in_year, months_in_year, is_month_end}
use Rattle.settlement.specs.Book.{Book, all_shortfalls}
use Rattle.settlement.specs.Events.{Call, hour_call, month_end_call, year_end_call, event_of, next_targets, hour_charges, wants, fund, book_after, is_out_of_turn, input_rows, size_rows, own_rows, refusal}
use Rattle.settlement.proofs.Balances.{InBounds, fund_in_bounds}
use Rattle.settlement.proofs.SharingOut.{size_clear}
use Rattle.settlement.proofs.Refusing.{event_clear, accepted_early, from_own, in_turn, calm_amount, input_within}

-- an accepted hour
pub record HourAccepted (file : List ℕ) (prices : List ℤ) (collected : ℤ) (book : Book) : Type 0 where
  pub open_book : book.ended ≡ false
  pub not_due : is_month_end book.year book.hours book.months ≡ false
  pub in_year : book.hours < hours_in_year book.year
  pub wants_most : total (wants (hour_call file prices collected) book) ≤ most_cents
  pub fund_bounded : InBounds 1 (fund (hour_call file prices collected) book)
  pub carry : all_shortfalls (book_after (hour_call file prices collected) book) ≤ most_cents

module _ (file : List ℕ) (prices : List ℤ) (collected : ℤ) (book : Book) (places : ℕ) where
  abbrev call : Call
  call = hour_call file prices collected

  own_clear : first_refusal (own_rows call book) ≡ 0
      → (first_refusal (input_rows book.year file prices collected) ≡ 0)
      × (first_refusal (size_rows book (fund call book) (wants call book) (hour_charges (next_targets file prices book))) ≡ 0)
  unfolding own_rows
  own_clear clear =
      refusal_both 4 8 (input_rows book.year file prices collected) _ (omega arith) (input_within book.year file prices collected) clear

  pub hour_accepted : refusal call book places ≡ 0 → HourAccepted file prices collected book
  unfolding fund book_after
  hour_accepted accepted =
      let early = accepted_early call book places accepted in
      let begun = event_clear (event_of call) book places early in
      let turn = in_turn book begun.2 in
      let own = own_clear (sym (from_own call book places early) ∙ accepted) in
      let size = size_clear book (fund call book) (wants call book) (hour_charges (next_targets file prices book)) own.1 in
      record {
        open_book = begun.1;
        not_due = turn.0;
        in_year = turn.1;
        wants_most = size.0;
        fund_bounded = fund_in_bounds collected (hour_charges (next_targets file prices book)) (calm_amount book.year file prices collected own.0) size.1;
        carry = size.2;
      }

module _ (book : Book) (places : ℕ) where
  pub month_accepted : refusal month_end_call book places ≡ 0
      → (book.ended ≡ false) × (is_month_end book.year book.hours book.months ≡ true)
  unfolding is_out_of_turn
  month_accepted accepted =
      let begun = event_clear (event_of month_end_call) book places (accepted_early month_end_call book places accepted) in
      (begun.1, not-false (is_month_end book.year book.hours book.months) begun.2)

  pub year_accepted : refusal year_end_call book places ≡ 0 → (book.ended ≡ false) × (months_in_year ≤ book.months)
  unfolding is_out_of_turn
  year_accepted accepted =
      let begun = event_clear (event_of year_end_call) book places (accepted_early year_end_call book places accepted) in
      (begun.1, omega (arith, ltb-false book.months _ begun.2))
