-- Lists of calls in which no hour collects less than nothing: what the papers said of them before Wish 6 is still so.
-- Assumes nothing.
use Rattle.std.specs.Prelude.{ℕ, ◌<◌, ◌≡◌, false, ◌⊎◌, List, [], ◌∷◌, pos, ◌≤ℤ◌}
use Rattle.numbers.specs.Limits.{owners}
use Rattle.settlement.specs.Book.{is_short, fund_left}
use Rattle.settlement.specs.Events.{Call, fund}
use Rattle.settlement.specs.Ledger.{Asked, book_at, ledger_of, sum_over, year_end_count, call_amount}

-- no call has a negative amount
abbrev pub IsOrdinary : List Asked → Type 0
IsOrdinary [] = Unit {0}
IsOrdinary (asked ∷ before) = (pos 0 ≤ℤ call_amount asked.call) × IsOrdinary before

-- on the book after such a list
pub record StaysOrdinary (year : ℕ) (calls : List Asked) : Type 0 where
  -- "a month surplus and a year surplus"
  pub month_surplus : pos 0 ≤ℤ (book_at year (ledger_of year calls)).monthbalance
  pub year_surplus : pos 0 ≤ℤ (book_at year (ledger_of year calls)).yearbalance
  -- the F of one such call more is at least 0, so that what it pays and leaves is the split's
  pub funded : (call : Call) → pos 0 ≤ℤ call_amount call → pos 0 ≤ℤ fund call (book_at year (ledger_of year calls))
  -- "after an accepted year end the fund is empty or no owner is short"
  pub year_closes : 0 < sum_over year_end_count (ledger_of year calls)
      → (fund_left (book_at year (ledger_of year calls)) ≡ pos 0)
      ⊎ ((owner : ℕ) → owner < owners → is_short (book_at year (ledger_of year calls)) owner ≡ false)
