-- For the contracts of inner functions alone, no part of what a call of a run promises: a part of a run is appended.
-- Assumes nothing.
use Rattle.std.specs.Prelude.{ℕ, ◌+◌, ◌≤◌, ◌≡◌, List, [], ℤ, pos, Result, Ok, Err, length}
use Rattle.numbers.specs.Limits.{owners}
use Rattle.numbers.specs.declared.refusal.Refusal.{Refusal}
use Rattle.numbers.specs.Refusals.{number_in, record_in}
use Rattle.settlement.specs.Book.{Book}
use Rattle.settlement.specs.ByOwner.{cell_count}
use Rattle.settlement.specs.declared.Event.{Event}
use Rattle.settlement.specs.declared.Event.TheVariants.{Hour, MonthEnd, YearEnd}
use Rattle.settlement.specs.declared.Funding.{Funding}
use Rattle.settlement.specs.Events.{Call, hour_call, month_end_call, year_end_call}
use Rattle.statement_text.specs.InnerContracts.{Wrote}
use Rattle.statement_text.specs.Text.{text_of, event_lines, event_room}
use Rattle.settlement_run.specs.declared.Run.{Run}
use Rattle.settlement_run.specs.Run.{Part, goes_on, stops, tag_of}
use Rattle.settlement_run.specs.Calls.{standing}

-- how a part ends: what comes behind it sees no more of it
abbrev pub ending : Part → Part
ending part = stops [] part.refusal part.tag part.number part.faulty part.book

-- a run stands where a part ends
abbrev pub StandsAt : Part → Run → Type 0
StandsAt part run = standing run ≡ ending part

-- the book of a run has its 128 cells
abbrev pub HasCells : Run → Type 0
HasCells run = length run.book.shortfalls ≡ cell_count

-- the lines of a part are written behind the run's text, in the room of one event, and the run stands where the part ends
pub record Appended (part : Part) (run : Run) (before : List ℕ) (result : Run) (after : List ℕ) : Type 0 where
  pub full : result.full ≡ run.full
  pub wrote : Wrote (text_of part.printed) before run.end after result.end
  pub short : result.end ≤ run.end + event_room owners
  pub stands : StandsAt part result
  pub cells : HasCells run → HasCells result

-- a run with the refusal of a part, or none; all else stays
abbrev pub with_refusal : Part → Run → Run
with_refusal part run =
    record {
      full = run.full;
      end = run.end;
      refusal = part.refusal;
      tag = part.tag;
      number = part.number;
      faulty = part.faulty;
      book = run.book;
    }

-- some call of an event: each call of it has the same letter and number
abbrev pub call_at : Event → Call
call_at Hour = hour_call [] [] (pos 0)
call_at MonthEnd = month_end_call
call_at YearEnd = year_end_call

-- a refused event of this number, by the book, which stays as it is
abbrev pub refused_part : Event → ℕ → Book → Refusal → Part
refused_part event number book refusal =
    stops [] (number_in refusal) (tag_of (call_at event)) number (record_in refusal) book

-- an event of this number that was answered so, with the book after it and these lines
abbrev pub answered_part : Event → ℕ → Result Funding Refusal → Book → List ℤ → Part
answered_part event number (Ok funding) after lines =
    goes_on [] (event_lines (tag_of (call_at event)) number lines) after
answered_part event number (Err refusal) after lines = refused_part event number after refusal
