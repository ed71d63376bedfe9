-- What a run of the program prints, for the bytes of any rights file and any input: block by block from a fresh book.
-- Assumes nothing.
use Rattle.std.specs.Prelude.{ℕ, zero, suc, ◌+◌, ◌-◌, ◌*◌, ◌/◌, Bool, cond, not, List, [], ◌∷◌, ◌++◌, ltb, eqb, length, take, drop, replicate, pos}
use Prim.Native.Char.{code}
use Rattle.numbers.specs.Limits.{owners}
use Rattle.numbers.specs.Refusals.{first_refusal, ◌if◌, answer_by}
use Rattle.calendar.specs.Almanac.{is_outside}
use Rattle.rights.specs.Layout.{most_bytes}
use Rattle.settlement.specs.Book.{Book, fresh}
use Rattle.settlement.specs.Events.{Call, hour_call, month_end_call, year_end_call, event_of, is_due, refusal, record_of, lines, book_after}
use Rattle.settlement.specs.Ledger.{Asked}
use Rattle.hour_block.specs.Block.{hour_bytes, amount_in, prices_in}
use Rattle.statement_text.specs.Sentence.{sentence}
use Rattle.statement_text.specs.Text.{Line, fund_line, refusal_line, text_of, event_lines}

-- ---- a part of a run

-- the calls that it makes, newest first; the lines that it prints; the refusal that stops the run there, 0 if it goes on, with the
-- letter and the number of the refused event and its record number (0 for none); the book after it
pub record Part : Type 0 where
  pub calls : List Asked
  pub printed : List Line
  pub refusal : ℕ
  pub tag : ℕ
  pub number : ℕ
  pub faulty : ℕ
  pub book : Book

-- these calls and lines, and the run goes on with this book
abbrev pub goes_on : List Asked → List Line → Book → Part
goes_on calls printed book =
    record { calls = calls; printed = printed; refusal = 0; tag = 0; number = 0; faulty = 0; book = book }

-- these calls, no line, and the run stops at this event with this refusal and record number
abbrev pub stops : List Asked → ℕ → ℕ → ℕ → ℕ → Book → Part
stops calls refusal tag number faulty book =
    record {
      calls = calls;
      printed = [];
      refusal = refusal;
      tag = tag;
      number = number;
      faulty = faulty;
      book = book;
    }

-- "event by event": one part behind another
abbrev pub behind : Part → Part → Part
behind first then =
    record {
      calls = then.calls ++ first.calls;
      printed = first.printed ++ then.printed;
      refusal = then.refusal;
      tag = then.tag;
      number = then.number;
      faulty = then.faulty;
      book = then.book;
    }

-- a part and what comes next on its book, unless the part stops the run
unfoldable pub and_then : Part → (Book → Part) → Part
and_then part next = answer_by part.refusal (behind part (next part.book)) part

-- "The program keeps 2025" (Wish 7)
abbrev pub program_year : ℕ
program_year = 2025

-- ---- an event

-- "an `H`, `M` or `Y`"
abbrev pub tag_of : Call → ℕ
tag_of (hour_call file prices collected) = code "H"
tag_of month_end_call = code "M"
tag_of year_end_call = code "Y"

-- "the hour or month number (0 for the year)"
abbrev pub number_of : Call → Book → ℕ
number_of (hour_call file prices collected) book = book.hours
number_of month_end_call book = book.months
number_of year_end_call book = 0

-- a call, with a line for each owner lent to it
abbrev pub asked_of : Call → Asked
asked_of call = record { call = call; lent = replicate owners (pos 0) }

-- accepted: its lines, "owners rising, for each non-zero line", and the book after it; refused: no line, "and stops"
unfoldable pub event_part : Call → Book → Part
event_part call book =
    answer_by (refusal call book owners)
    (goes_on (asked_of call ∷ []) (event_lines (tag_of call) (number_of call book) (lines call book)) (book_after call book))
    (stops (asked_of call ∷ []) (refusal call book owners) (tag_of call) (number_of call book) (record_of call book.year (refusal call book owners)) book)

-- "It closes months and the year when due."
unfoldable pub if_due : Call → Book → Part
if_due call book = cond (is_due (event_of call) book) (event_part call book) (goes_on [] [] book)

-- ---- a block of the input

-- what a block of so many bytes calls for on a book of this year: 15 "before any other check" (Wish 7); "a broken last hour, with number 4"
unfoldable pub block_refusal : ℕ → ℕ → ℕ
block_refusal year bytes = first_refusal ((15 if is_outside year) ∷ (4 if not (eqb bytes hour_bytes)) ∷ [])

-- the next hour, from its "4,104 bytes"; such a refusal stops the run
unfoldable pub hour_part : List ℕ → List ℕ → Book → Part
hour_part file block book =
    answer_by (block_refusal book.year (length block)) (event_part (hour_call file (prices_in block) (amount_in block)) book)
    (stops [] (block_refusal book.year (length block)) (code "H") book.hours 0 book)

-- the hour; the month end where one is due; the year end where one is due
unfoldable pub step_part : List ℕ → List ℕ → Book → Part
step_part file block book =
    and_then (and_then (hour_part file block book) (if_due month_end_call)) (if_due year_end_call)

-- ---- the whole run

-- "rights from `ftr.bin` (number 4 if it can't be opened or is too long)", by whether it can be read and its number of bytes
unfoldable pub opening_refusal : Bool → ℕ → ℕ
opening_refusal readable bytes = first_refusal ((4 if not readable) ∷ (4 if ltb most_bytes bytes) ∷ [])

unfoldable pub opening : Bool → ℕ → Part
opening readable bytes = stops [] (opening_refusal readable bytes) 0 0 0 (fresh program_year)

-- "hours from standard input: 4,104 bytes each": the block of a number, from 0, and how many there are; the last may be broken
abbrev pub block_at : List ℕ → ℕ → List ℕ
block_at input number = take hour_bytes (drop (number * hour_bytes) input)

abbrev pub block_count : List ℕ → ℕ
block_count input = (length input + (hour_bytes - 1)) / hour_bytes

-- the run over so many blocks
unfoldable pub run_to : Bool → List ℕ → List ℕ → ℕ → Part
run_to readable file input zero = opening readable (length file)
run_to readable file input (suc n) = and_then (run_to readable file input n) (step_part file (block_at input n))

abbrev pub whole_run : Bool → List ℕ → List ℕ → Part
whole_run readable file input = run_to readable file input (block_count input)

-- "last an `F`, month surplus, year surplus", each of which is now "a signed balance" (Wish 6). "A refusal prints `R` and its number, no `F`,
-- and stops"
unfoldable pub last_line : ℕ → Book → Line
last_line refusal book = answer_by refusal (fund_line book.monthbalance book.yearbalance) (refusal_line refusal)

-- all lines of a run
abbrev pub all_lines : Part → List Line
all_lines run = run.printed ++ (last_line run.refusal run.book ∷ [])

-- the whole text that the program prints, for every rights file (whether it can be read, and its bytes) and every input
unfoldable pub run_text : Bool → List ℕ → List ℕ → List ℕ
run_text readable file input = text_of (all_lines (whole_run readable file input))

-- "on standard error the program adds one plain sentence for a refusal: the event and its number, the refusal's word from the table, and
-- for 7 and 8 the record"
abbrev pub explanation : Part → List ℕ
explanation part = sentence part.tag part.number part.refusal part.faulty

unfoldable pub run_sentence : Bool → List ℕ → List ℕ → List ℕ
run_sentence readable file input = explanation (whole_run readable file input)
