-- With no negative hour both balances stay surpluses, and each F is at least 0.
-- Assumes nothing.
use Prim.Native.Nat.{ℕ, zero, suc}
use mathlib.Core.Path.{◌≡◌}
use mathlib.Core.Bool.{false}
use mathlib.Core.Logic.{inl, inr, ⊎_elim}
use mathlib.Core.List.{List, [], ◌∷◌}
use native.Mathlib.Omega.{arith}
use lib.ListN.{length}
use lib.IntN.{pos}
use lib.Signed.{◌≤ℤ◌}
use borrow.Author.Differences.{ints}
use Rattle.numbers.specs.Refusals.{answer_by}
use Rattle.calendar.specs.Almanac.{is_outside}
use Rattle.settlement.specs.Book.{Book, fresh}
use Rattle.settlement.specs.Events.{Call, hour_call, month_end_call, year_end_call, fund, left_over, book_after, refusal}
use Rattle.settlement.specs.Ledger.{Asked, book_at, ledger_of, call_amount}
use Rattle.settlement.specs.OrdinaryYear.{IsOrdinary, StaysOrdinary}
use Rattle.settlement.proofs.Shares.{left_is}
use Rattle.settlement.proofs.ClaimHolds.{claim}

-- balances that are surpluses
record AreSurpluses (book : Book) : Type 0 where
  month : pos 0 ≤ℤ book.monthbalance
  year : pos 0 ≤ℤ book.yearbalance

module _ (book : Book) (kept : AreSurpluses book) where
  fund_enough : (call : Call) → pos 0 ≤ℤ call_amount call → pos 0 ≤ℤ fund call book
  unfolding fund
  fund_enough (hour_call file prices collected) amount = omega (arith, ints, amount)
  fund_enough month_end_call _ = kept.month
  fund_enough year_end_call _ = kept.year

  -- so no less than nothing is left
  left_enough : (call : Call) → pos 0 ≤ℤ call_amount call → pos 0 ≤ℤ left_over call book
  left_enough call amount = ⊎_elim (λ between. between.0) (λ all. absurd (omega (arith, ints, all.0, fund_enough call amount))) (left_is call book)

  after : (call : Call) → pos 0 ≤ℤ call_amount call → AreSurpluses (book_after call book)
  unfolding book_after
  after (hour_call file prices collected) amount =
      let left = left_enough (hour_call file prices collected) amount in
      record { month = omega (arith, ints, kept.month, left); year = kept.year }
  after month_end_call amount =
      let left = left_enough month_end_call amount in
      record { month = omega (arith, ints); year = omega (arith, ints, kept.year, left) }
  after year_end_call amount = record { month = kept.month; year = left_enough year_end_call amount }

  next : (call : Call) (number : ℕ) → pos 0 ≤ℤ call_amount call → AreSurpluses (answer_by number (book_after call book) book)
  next call zero amount = after call amount
  next call (suc n) amount = kept

module _ (year : ℕ) where
  surpluses : (calls : List Asked) → IsOrdinary calls → AreSurpluses (book_at year (ledger_of year calls))
  unfolding book_at ledger_of fresh
  surpluses [] tt = record { month = omega (arith, ints); year = omega (arith, ints) }
  surpluses (asked ∷ before) ordinary =
      next (book_at year (ledger_of year before)) (surpluses before ordinary.1) asked.call
      (refusal asked.call (book_at year (ledger_of year before)) (length asked.lent)) ordinary.0

  pub stays_ordinary : is_outside year ≡ false → (calls : List Asked) → IsOrdinary calls → StaysOrdinary year calls
  stays_ordinary within calls ordinary =
      let kept = surpluses calls ordinary in
      record {
        month_surplus = kept.month;
        year_surplus = kept.year;
        funded = fund_enough (book_at year (ledger_of year calls)) kept;
        year_closes =
            λ ended.
            ⊎_elim (λ most. inl (omega (arith, ints, most, kept.month, kept.year))) (λ nobody. inr nobody) ((claim year within calls).year_closes ended);
      }
