-- The end of the text lies within the buffer, after a step, after the closing and after the sentence.
-- Assumes nothing.
use Prim.Native.Nat.{ℕ, ◌≤◌, zero-le}
use mathlib.Core.Path.{◌≡◌, ap}
use mathlib.Core.List.{List}
use lib.ListN.{length}
use Rattle.statement_text.specs.Buffer.{text_after, end_after}
use Rattle.statement_text.specs.Sentence.{sentence_room}
use Rattle.statement_text.specs.Text.{text_of, line_room}
use Rattle.statement_text.proofs.Room.{ends_within}
use Rattle.settlement_run.specs.declared.Run.{Run}
use Rattle.settlement_run.specs.Run.{explanation}
use Rattle.settlement_run.specs.Calls.{step_room, standing, stepped, stepped_run, stepped_text, last_text, closed}

pub step_within : (file block : List ℕ) (run : Run) (before : List ℕ) {result : Run} {after : List ℕ} → result ≡ stepped_run file block run before
    → after ≡ stepped_text file block run before → run.end ≤ length before → result.end ≤ length after
step_within file block run before is writes inside =
    ends_within step_room (text_of (stepped file block run).printed) before run.end (ap (λ (r : Run). r.end) is) writes inside

pub closing_within : (run : Run) (before : List ℕ) {result : Run} {after : List ℕ} → result ≡ closed run before
    → after ≡ text_after line_room (last_text run) before run.end → run.end ≤ length before → result.end ≤ length after
closing_within run before is writes inside =
    ends_within line_room (last_text run) before run.end (ap (λ (r : Run). r.end) is) writes inside

pub sentence_within : (run : Run) (before : List ℕ) {end : ℕ} {after : List ℕ} → end ≡ end_after sentence_room (explanation (standing run)) before 0
    → after ≡ text_after sentence_room (explanation (standing run)) before 0 → end ≤ length after
sentence_within run before ends writes = ends_within sentence_room (explanation (standing run)) before 0 ends writes zero-le
