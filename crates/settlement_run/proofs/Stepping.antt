-- A step from its three events, and a step that does nothing.
-- Assumes nothing.
use Prim.Native.Nat.{ℕ, ◌+◌, ◌≤◌}
use mathlib.Core.Path.{◌≡◌, refl, sym, ap, ◌∙◌}
use mathlib.Core.Bool.{Bool, true, false, cond, not}
use mathlib.Core.List.{List}
use native.Mathlib.Omega.{arith}
use lib.ListN.{length}
use lib.Dec.{leb}
use borrow.Author.Tests.{ltb-true, ltb-false, leb-true, leb-false, lt-ltb, le-ltb}
use Rattle.settlement.specs.Book.{Book}
use Rattle.settlement.specs.ByOwner.{read_off}
use Rattle.settlement.specs.Events.{month_end_call, year_end_call}
use Rattle.statement_text.specs.Buffer.{end_after}
use Rattle.statement_text.specs.InnerContracts.{Wrote}
use Rattle.statement_text.specs.Text.{text_of}
use Rattle.statement_text.proofs.Lines.{text_append}
use Rattle.statement_text.proofs.Pieces.{wrote_then, wrote_as}
use Rattle.statement_text.proofs.Room.{with_room, without_room}
use Rattle.settlement_run.specs.declared.Run.{Run}
use Rattle.settlement_run.specs.Run.{Part, and_then, if_due, hour_part, step_part}
use Rattle.settlement_run.specs.Calls.{step_room, lacks_room, standing, run_at, stepped, stepped_run, stepped_text}
use Rattle.settlement_run.specs.InnerContracts.{StandsAt, HasCells, Appended}
use Rattle.settlement_run.proofs.Parts.{adds, stands_next}
use Rattle.settlement_run.proofs.Appending.{SameEnd, appended_stopped, same_next}
use Rattle.settlement_run.proofs.Standing.{put_back}

-- ---- one part behind another

-- a part's text is written behind a place, and a run stands where the part ends
pub record Reached (part : Part) (before : List ℕ) (at : ℕ) (run : Run) (after : List ℕ) : Type 0 where
  pub wrote : Wrote (text_of part.printed) before at after run.end
  pub stands : StandsAt part run

pub reached_next : (part : Part) (next : Book → Part) {before mid after : List ℕ} {at : ℕ} {run result : Run}
    → Reached part before at run mid → run.end ≤ length before → Appended (and_then (standing run) next) run mid result after
    → Reached (and_then part next) before at result after
reached_next part next {run = run} {result = result} reached inside made =
    record {
      wrote =
          wrote_as
          (sym (ap text_of (adds part run reached.stands next) ∙ text_append part.printed (and_then (standing run) next).printed))
          (wrote_then reached.wrote made.wrote (omega (arith, reached.wrote.ends)));
      stands = stands_next part run reached.stands next result made.stands;
    }

-- ---- a step

-- too little room, where the buffer was asked for that much
pub lacks_said : {has : Bool} (room bytes at : ℕ) → has ≡ leb (at + room) bytes → not has ≡ lacks_room room bytes at
lacks_said {has = true} room bytes at is = sym (le-ltb bytes (at + room) (leb-true _ _ (sym is)))
lacks_said {has = false} room bytes at is = sym (lt-ltb bytes (at + room) (leb-false _ _ (sym is)))

module _ (file block : List ℕ) (run : Run) (before : List ℕ) (all : HasCells run) where
  abbrev lacks : Bool
  lacks = lacks_room step_room (length before) run.end

  -- the result and the buffer of a step
  abbrev IsStepped : Run → List ℕ → Type 0
  IsStepped result after = (result ≡ stepped_run file block run before) × (after ≡ stepped_text file block run before)

  -- the run, told of the room
  abbrev told : Bool → Run
  told full =
      record {
        full = full;
        end = run.end;
        refusal = run.refusal;
        tag = run.tag;
        number = run.number;
        faulty = run.faulty;
        book = run.book;
      }

  -- a run with the end and the place of a step, by the room
  as_stepped : (full : Bool) → lacks ≡ full → {result : Run} → HasCells result → result.full ≡ lacks
      → result.end ≡ end_after step_room (text_of (stepped file block run).printed) before run.end
      → StandsAt (cond full (standing run) (stepped file block run)) result → result ≡ stepped_run file block run before
  as_stepped full is {result} cells same ends stands =
      let end = end_after step_room (text_of (stepped file block run).printed) before run.end in
      sym (put_back result cells)
      ∙ (λ i. run_at (stands i) (same i) (ends i))
      ∙ ap (λ (t : Bool). run_at (cond t (standing run) (stepped file block run)) lacks end) (sym is)

  -- too little room
  pub step_full : (full : Bool) → full ≡ lacks → full ≡ true → IsStepped (told full) before
  step_full full is short =
      let same = without_room step_room (text_of (stepped file block run).printed) before run.end (ltb-true (length before) _ (sym is ∙ short)) in
      (as_stepped true (sym is ∙ short) all is same.0 refl, same.1)

  -- with room: the text of what comes of the block is written, and the run stands behind it
  module _ (full : Bool) (is : full ≡ lacks) (room : full ≡ false) where
    pub enough : run.end + step_room ≤ length before
    enough = ltb-false (length before) (run.end + step_room) (sym is ∙ room)

    with_text : (result : Run) (after : List ℕ) → HasCells result → result.full ≡ full → Reached (stepped file block run) before run.end result after
        → IsStepped result after
    with_text result after cells same reached =
        let says = with_room step_room (text_of (stepped file block run).printed) before run.end after result.end enough reached.wrote in
        (as_stepped false (sym is ∙ room) cells (same ∙ is) says.0 reached.stands, says.1)

    -- the run has stopped
    pub step_stopped : (run.refusal ≡ 0 → ⊥) → IsStepped (told full) before
    step_stopped stopped =
        let made = appended_stopped run (step_part file block) before stopped in
        with_text (told full) before all refl (record { wrote = made.wrote; stands = made.stands })

    -- the hour, the month end and the year end, one behind another
    pub step_settled : run.refusal ≡ 0 → {hour month year : Run} {one two three : List ℕ}
        → Appended (hour_part file block (read_off run.book)) (told full) before hour one
        → Appended (and_then (standing hour) (if_due month_end_call)) hour one month two
        → Appended (and_then (standing month) (if_due year_end_call)) month two year three → IsStepped year three
    unfolding step_part
    step_settled goes {hour} {month} {year} {one} {two} {three} first second third =
        with_text year three (third.cells (second.cells (first.cells all))) (third.full ∙ second.full ∙ first.full)
        (record { wrote = wrote_as (ap text_of same.printed) years.wrote; stands = years.stands ∙ same.ends })
      where
        hours : Reached (hour_part file block (read_off run.book)) before run.end hour one
        hours = record { wrote = first.wrote; stands = first.stands }

        months : Reached (and_then (hour_part file block (read_off run.book)) (if_due month_end_call)) before run.end month two
        months = reached_next (hour_part file block (read_off run.book)) (if_due month_end_call) hours (omega (arith, enough, first.short)) second

        years : Reached (step_part file block (read_off run.book)) before run.end year three
        years =
            reached_next (and_then (hour_part file block (read_off run.book)) (if_due month_end_call)) (if_due year_end_call) months
            (omega (arith, enough, first.short, second.short)) third

        same : SameEnd (step_part file block (read_off run.book)) (stepped file block run)
        same = same_next run (step_part file block) goes
