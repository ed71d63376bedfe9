-- What the calls of a run promise: the text that they append to a lent buffer, and where the run then stands.
-- Assumes nothing.
use Rattle.std.specs.Prelude.{ℕ, ◌+◌, ◌*◌, Bool, false, cond, List, [], ltb, length, Option, is_some, unwrap_or}
use Rattle.numbers.specs.Limits.{owners}
use Rattle.settlement.specs.ByOwner.{laid_out, read_off}
use Rattle.statement_text.specs.Buffer.{text_after, end_after}
use Rattle.statement_text.specs.Text.{line_text, text_of, line_room, event_room}
use Rattle.settlement_run.specs.declared.Run.{Run}
use Rattle.settlement_run.specs.Run.{Part, stops, and_then, step_part, opening, last_line}

-- the room that a step asks for behind the end of the text: an hour's lines, a month end's and a year end's
abbrev pub step_room : ℕ
step_room = 3 * event_room owners

-- a buffer of so many bytes has too little room behind a place
abbrev pub lacks_room : ℕ → ℕ → ℕ → Bool
lacks_room room bytes at = ltb bytes (at + room)

-- where a run stands, as a part of it that printed nothing, with the book of the rules read off the run's, which is laid out by owner (Wish 11)
abbrev pub standing : Run → Part
standing run = stops [] run.refusal run.tag run.number run.faulty (read_off run.book)

-- the run that stands where a part ends, its book laid out by owner, with what was found of the room and the end of its text
abbrev pub run_at : Part → Bool → ℕ → Run
run_at part full end =
    record {
      full = full;
      end = end;
      refusal = part.refusal;
      tag = part.tag;
      number = part.number;
      faulty = part.faulty;
      book = laid_out part.book;
    }

-- ---- before the first block

abbrev pub begun : Bool → ℕ → Run
begun readable bytes = run_at (opening readable bytes) false 0

-- over a rights file of so many bytes, if it can be read
abbrev pub begun_over : Option ℕ → Run
begun_over file = begun (is_some file) (unwrap_or file 0)

-- ---- a block

-- what comes of a block: nothing where the run has stopped
abbrev pub stepped : List ℕ → List ℕ → Run → Part
stepped file block run = and_then (standing run) (step_part file block)

-- a step of any run, with any bytes as rights and as block, and any buffer. With room, the lines that come of the block are appended
-- and the run stands behind them. Without, it does nothing, and says that the buffer is full
abbrev pub stepped_run : List ℕ → List ℕ → Run → List ℕ → Run
stepped_run file block run before =
    let full = lacks_room step_room (length before) run.end in
    run_at (cond full (standing run) (stepped file block run)) full
    (end_after step_room (text_of (stepped file block run).printed) before run.end)

abbrev pub stepped_text : List ℕ → List ℕ → Run → List ℕ → List ℕ
stepped_text file block run before = text_after step_room (text_of (stepped file block run).printed) before run.end

-- ---- after the last block

-- the last line is appended, if there is room for it
abbrev pub last_text : Run → List ℕ
last_text run = line_text (last_line run.refusal (read_off run.book))

abbrev pub closed : Run → List ℕ → Run
closed run before =
    run_at (standing run) (lacks_room line_room (length before) run.end) (end_after line_room (last_text run) before run.end)
