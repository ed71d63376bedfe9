-- Demand 3, of the lines that a run prints, for every rights file and every input.
-- Assumes nothing.
use Rattle.std.specs.Prelude.{ℕ, ◌+◌, ◌<◌, ◌≡◌, true, false, cond, ◌&&◌, ◌⊎◌, List, [], ◌∷◌, ◌++◌, eqb, ℤ, pos, ◌+ℤ◌, ◌≤ℤ◌}
use Rattle.numbers.specs.Limits.{owners}
use Rattle.numbers.specs.Lists.{total, list_below, sum_below}
use Rattle.numbers.specs.Refusals.{answer_by}
use Rattle.numbers.specs.Signs.{positive, negative}
use Rattle.target.specs.Target.{target}
use Rattle.settlement.specs.Book.{open_shortfall, is_short, fund_left}
use Rattle.settlement.specs.Events.{Call, hour_call, month_end_call, year_end_call}
use Rattle.settlement.specs.Ledger.{Entry, book_at, ledger_of, sum_over, hour_count, month_end_count, credit}
use Rattle.settlement.specs.Claim.{Claim}
use Rattle.hour_block.specs.Block.{amount_in, prices_in}
use Rattle.statement_text.specs.Text.{Line, owner_line, fund_line, refusal_line, event_lines}
use Rattle.settlement_run.specs.Run.{Part, program_year, tag_of, block_at, all_lines}

-- ---- what is read from the printed lines

-- "its credit is its line, or 0 if that is negative"
unfoldable pub credit_in : ℕ → Line → ℕ
credit_in owner (owner_line tag number who cents) = cond (eqb who owner) (positive cents) 0
credit_in owner (fund_line month year) = 0
credit_in owner (refusal_line number) = 0

-- "its charge is its line, sign dropped, if that is negative, else 0"
unfoldable pub charge_in : ℕ → Line → ℕ
charge_in owner (owner_line tag number who cents) = cond (eqb who owner) (negative cents) 0
charge_in owner (fund_line month year) = 0
charge_in owner (refusal_line number) = 0

-- the credit of one event alone, by its letter and number
unfoldable pub event_credit_in : ℕ → ℕ → ℕ → Line → ℕ
event_credit_in letter event owner (owner_line tag number who cents) =
    cond (eqb tag letter && eqb number event && eqb who owner) (positive cents) 0
event_credit_in letter event owner (fund_line month year) = 0
event_credit_in letter event owner (refusal_line number) = 0

-- "the fund left is both surpluses", each of which is now "a signed balance" (Wish 6), as the last line prints them
unfoldable pub fund_in : Line → ℤ
fund_in (owner_line tag number who cents) = pos 0
fund_in (fund_line month year) = month +ℤ year
fund_in (refusal_line number) = pos 0

-- what the lines have, put together, where none is what no line has
unfoldable pub over_lines : {A : Type 0} → A → (A → A → A) → (Line → A) → List Line → A
over_lines none plus part [] = none
over_lines none plus part (line ∷ rest) = plus (part line) (over_lines none plus part rest)

-- the sum of what the lines have, of cents and of cents of either sign
abbrev pub sum_lines : (Line → ℕ) → List Line → ℕ
sum_lines = over_lines 0 ◌+◌

abbrev pub balance_lines : (Line → ℤ) → List Line → ℤ
balance_lines = over_lines (pos 0) ◌+ℤ◌

-- of all owners together
abbrev pub of_owners : (ℕ → ℕ) → ℕ
of_owners part = total (list_below part owners)

-- ---- what is read from the input, over the hours that were settled

-- the amounts collected, of either sign: "Collected may run from -4,000,000,000 up to the old top" (Wish 6)
abbrev pub collected_in : List ℕ → ℕ → ℤ
collected_in input hours = sum_below (λ hour. amount_in (block_at input hour)) hours

-- an owner's positive targets, in the program's year
abbrev pub targets_in : List ℕ → List ℕ → ℕ → ℕ → ℕ
targets_in file input owner hours =
    total (list_below (λ hour. positive (target program_year file (prices_in (block_at input hour)) hour owner)) hours)

-- ---- the ledger of the calls that a run makes, and the lines of its accepted calls

-- "whose number is the count of accepted hours before it", and so of month ends; 0 for the year
abbrev pub number_in : Call → List Entry → ℕ
number_in (hour_call file prices collected) past = sum_over hour_count past
number_in month_end_call past = sum_over month_end_count past
number_in year_end_call past = 0

-- oldest first, and none of a refused call
unfoldable pub ledger_lines : List Entry → List Line
ledger_lines [] = []
ledger_lines (entry ∷ past) =
    ledger_lines past
    ++ answer_by entry.result.refusal (event_lines (tag_of entry.call) (number_in entry.call past) entry.written) []

-- at each accepted call, an owner's credit, which the claim holds against its want and its exact share, is what the lines of that event
-- print
abbrev pub CreditsPrinted : List Line → List Entry → Type 0
CreditsPrinted printed [] = Unit {0}
CreditsPrinted printed (entry ∷ past) =
    (entry.result.refusal ≡ 0 → (owner : ℕ) → owner < owners
    → sum_lines (event_credit_in (tag_of entry.call) (number_in entry.call past) owner) printed ≡ credit owner past entry)
    × CreditsPrinted printed past

pub record PrintedClaim (file input : List ℕ) (run : Part) : Type 0 where
  -- the calls of the run are "the whole list of hours, month ends and year ends" from a fresh book, and the whole claim holds of them
  pub claim : Claim program_year (ledger_of program_year run.calls)
  pub reached : book_at program_year (ledger_of program_year run.calls) ≡ run.book
  -- what is printed is the lines of its accepted calls
  pub prints : run.printed ≡ ledger_lines (ledger_of program_year run.calls)
  pub credits_printed : CreditsPrinted run.printed (ledger_of program_year run.calls)
  -- "collected plus charges equals credits plus the fund left", where "The fund in the closing equation may be negative" (Wish 6)
  pub closes : collected_in input run.book.hours +ℤ pos (of_owners (λ owner. sum_lines (charge_in owner) (all_lines run)))
      ≡ pos (of_owners (λ owner. sum_lines (credit_in owner) (all_lines run))) +ℤ fund_left run.book
  -- and the last line prints that fund, unless the run stopped
  pub prints_fund : run.refusal ≡ 0 → balance_lines fund_in (all_lines run) ≡ fund_left run.book
  -- "each owner's positive targets equal its credits plus its open shortfall"
  pub owner_closes : (owner : ℕ) → owner < owners
      → targets_in file input owner run.book.hours
      ≡ sum_lines (credit_in owner) (all_lines run) + open_shortfall run.book owner
  -- "an ended year shows a fund of at most zero or no owner short" (Wish 6)
  pub year_closes : run.book.ended ≡ true
      → (fund_left run.book ≤ℤ pos 0) ⊎ ((owner : ℕ) → owner < owners → is_short run.book owner ≡ false)
