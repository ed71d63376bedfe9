-- The year never gets stuck: how a book answers the events that are due on it.
-- Assumes nothing.
use Rattle.std.specs.Prelude.{ℕ, ◌+◌, ◌≤◌, ◌≡◌, true, false, cond, ◌⊎◌, List, ◌∷◌, ℤ}
use Rattle.numbers.specs.Limits.{owners}
use Rattle.numbers.specs.Refusals.{◌if◌, first_refusal}
use Rattle.target.specs.Target.{is_wrong_lines}
use Rattle.settlement.specs.Book.{Book}
use Rattle.settlement.specs.declared.Event.TheVariants.{Hour, MonthEnd, YearEnd}
use Rattle.settlement.specs.Events.{Call, hour_call, month_end_call, year_end_call, is_due, own_rows, refusal}

-- how many of the three events are due
abbrev pub due_events : Book → ℕ
due_events book = cond (is_due Hour book) 1 0 + cond (is_due MonthEnd book) 1 0 + cond (is_due YearEnd book) 1 0

pub record GoesOn (book : Book) : Type 0 where
  -- until the year end just one event is due
  pub one : book.ended ≡ false → due_events book ≡ 1
  -- a month end or a year end that is due is accepted with any 64 lines
  pub month_end : is_due MonthEnd book ≡ true → refusal month_end_call book owners ≡ 0
  pub year_end : is_due YearEnd book ≡ true → refusal year_end_call book owners ≡ 0
  -- an hour that is due is refused by what is lent with it and by its size alone, so by 4 to 10
  pub hour : is_due Hour book ≡ true → (file : List ℕ) (prices : List ℤ) (collected : ℤ) (places : ℕ)
      → refusal (hour_call file prices collected) book places
      ≡ first_refusal ((4 if is_wrong_lines places) ∷ own_rows (hour_call file prices collected) book)
  pub hour_number : is_due Hour book ≡ true → (file : List ℕ) (prices : List ℤ) (collected : ℤ) (places : ℕ)
      → (refusal (hour_call file prices collected) book places ≡ 0)
      ⊎ ((4 ≤ refusal (hour_call file prices collected) book places) × (refusal (hour_call file prices collected) book places ≤ 10))
  -- "year over" is the answer of an ended book to every event
  pub over : book.ended ≡ true → (call : Call) (places : ℕ) → refusal call book places ≡ 2
