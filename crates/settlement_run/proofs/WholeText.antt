-- What is written out and what stands in the buffer, joined, is the text of the run: after every call, and as a whole at its end.
-- Assumes nothing.
use Prim.Native.Nat.{ℕ, suc, ◌+◌, ◌≤◌}
use mathlib.Core.Path.{◌≡◌, refl, sym, ap, ap₂, ◌∙◌}
use mathlib.Core.Bool.{Bool, true, false, cond}
use mathlib.Core.Logic.{inl, inr}
use mathlib.Core.List.{List, [], ◌∷◌, ◌++◌, append_assoc, append-nil}
use native.Mathlib.Omega.{arith}
use lib.ListN.{length, take}
use borrow.Author.Tests.{ltb-true, ltb-false}
use Rattle.settlement.specs.ByOwner.{read_off}
use Rattle.settlement.proofs.ByOwner.{read_long}
use Rattle.settlement.proofs.Shares.{IsLong}
use Rattle.numbers.specs.Lists.{written}
use Rattle.statement_text.specs.Buffer.{text_after, end_after}
use Rattle.statement_text.specs.Text.{text_of, line_room}
use Rattle.numbers.proofs.Written.{front}
use Rattle.statement_text.proofs.Room.{with_room, without_room}
use Rattle.statement_text.proofs.Lines.{text_none, text_append, text_one}
use Rattle.settlement_run.specs.declared.Run.{Run}
use Rattle.settlement_run.specs.Run.{Part, and_then, step_part, opening, block_at, block_count, run_to, last_line, all_lines, run_text, explanation, run_sentence}
use Rattle.settlement_run.specs.Calls.{step_room, begun, standing, stepped_run, stepped_text, last_text, closed}
use Rattle.settlement_run.specs.InnerContracts.{ending, StandsAt}
use Rattle.settlement_run.specs.Turns.{UnderWay, opened, stepped, waited, written_out, emptied, IsRead}
use Rattle.settlement_run.proofs.Standing.{read_at, begun_stands, stepped_long}
use Rattle.settlement_run.proofs.Within.{step_within}
use Rattle.settlement_run.proofs.Parts.{adds, stands_next, run_next, stopped_from}

-- ---- a text that is written behind the end of another

module _ (room : ℕ) (text out before : List ℕ) (at : ℕ) (inside : at ≤ length before) where
  appended : at + room ≤ length before
      → out ++ take (end_after room text before at) (text_after room text before at) ≡ (out ++ take at before) ++ text
  appended enough =
      let is = with_room room text before at (written before at text) (at + length text) enough (record { ends = refl; buffer = refl }) in
      ap (λ (l : List ℕ). out ++ l) (ap₂ (λ (n : ℕ) (l : List ℕ). take n l) (sym is.0) (sym is.1) ∙ front before at text inside)
      ∙ sym (append_assoc out (take at before) text)

-- ---- after every call

pub record Joined (readable : Bool) (file input : List ℕ) (n : ℕ) (out buffer : List ℕ) (run : Run) : Type 0 where
  pub text : out ++ take run.end buffer ≡ text_of (run_to readable file input n).printed
  pub stands : StandsAt (run_to readable file input n) run
  pub within : run.end ≤ length buffer

module _ (readable : Bool) (file input : List ℕ) where
  abbrev up_to : ℕ → Part
  up_to = run_to readable file input

  joined_opened : (buffer : List ℕ) → Joined readable file input 0 [] buffer (begun readable (length file))
  unfolding run_to opening
  joined_opened buffer = record { text = sym text_none; stands = begun_stands readable (length file); within = omega arith }

  module _ {n : ℕ} {out before : List ℕ} {run : Run} (joined : Joined readable file input n out before run) where
    abbrev further : Part
    further = and_then (standing run) (step_part file (block_at input n))

    abbrev result : Run
    result = stepped_run file (block_at input n) run before

    abbrev after : List ℕ
    after = stepped_text file (block_at input n) run before

    -- where the step stands, by the room
    stood : (full : Bool) → result.full ≡ full → standing result ≡ ending (cond full (standing run) further)
    stood full is =
        read_at (cond result.full (standing run) further) result.full result.end (by_room result.full)
        ∙ ap (λ (t : Bool). ending (cond t (standing run) further)) is
      where
        by_room : (t : Bool) → IsLong (cond t (standing run) further).book
        by_room true = read_long run.book
        by_room false = stepped_long file (block_at input n) run

    joined_stepped : result.full ≡ false → Joined readable file input (suc n) out after result
    joined_stepped room_left =
        record {
          text =
              appended step_room (text_of further.printed) out before run.end joined.within (ltb-false (length before) (run.end + step_room) room_left)
              ∙ ap (λ (l : List ℕ). l ++ text_of further.printed) joined.text
              ∙ sym (text_append (up_to n).printed further.printed)
              ∙ ap text_of (sym (adds (up_to n) run joined.stands (step_part file (block_at input n))))
              ∙ ap (λ (p : Part). text_of p.printed) (sym (run_next readable file input n));
          stands =
              stands_next (up_to n) run joined.stands (step_part file (block_at input n)) result (stood false room_left)
              ∙ ap ending (sym (run_next readable file input n));
          within = step_within file (block_at input n) run before refl refl joined.within;
        }

    joined_waited : result.full ≡ true → Joined readable file input n out after result
    joined_waited full =
        let short = ltb-true (length before) (run.end + step_room) full in
        let same = without_room step_room (text_of further.printed) before run.end short in
        record {
          text = ap (λ (l : List ℕ). out ++ l) (ap₂ (λ (k : ℕ) (l : List ℕ). take k l) (sym same.0) (sym same.1)) ∙ joined.text;
          stands = stood true full ∙ joined.stands;
          within = step_within file (block_at input n) run before refl refl joined.within;
        }

  joined_out : {n : ℕ} {out before : List ℕ} {run : Run} (after : List ℕ) → Joined readable file input n out before run
      → Joined readable file input n (out ++ take run.end before) after (emptied run)
  joined_out {n} {out} {before} {run} after joined =
      record {
        text = append-nil (out ++ take run.end before) ∙ joined.text;
        stands = joined.stands;
        within = omega arith;
      }

  pub texts_join : {n : ℕ} {out buffer : List ℕ} {run : Run} → UnderWay readable file input n out buffer run
      → Joined readable file input n out buffer run
  texts_join (opened buffer) = joined_opened buffer
  texts_join (stepped under room_left) = joined_stepped (texts_join under) room_left
  texts_join (waited under full) = joined_waited (texts_join under) full
  texts_join (written_out after under) = joined_out after (texts_join under)

  -- ---- the whole run

  module _ {n : ℕ} {out before : List ℕ} {run : Run} (under : UnderWay readable file input n out before run) where
    -- the blocks that were not read would change nothing
    whole_is : IsRead input n run → run_to readable file input (block_count input) ≡ up_to n
    whole_is (inl all) = ap up_to (sym all)
    whole_is (inr some) =
        stopped_from readable file input n (block_count input) some.0
        (λ goes. some.1 (ap (λ (p : Part). p.refusal) (texts_join under).stands ∙ goes))

    pub whole_text : IsRead input n run → (closed run before).full ≡ false
        → out ++ take (closed run before).end (text_after line_room (last_text run) before run.end) ≡ run_text readable file input
    unfolding run_text
    whole_text read room_left =
        let joined = texts_join under in
        let enough : run.end + line_room ≤ length before = ltb-false (length before) (run.end + line_room) room_left in
        appended line_room (last_text run) out before run.end joined.within enough
        ∙ ap (λ (l : List ℕ). l ++ last_text run) joined.text
        ∙ ap (λ (l : List ℕ). text_of (up_to n).printed ++ l) (sym (text_one (last_line run.refusal (read_off run.book))))
        ∙ ap (λ (p : Part). text_of (up_to n).printed ++ text_of (last_line p.refusal p.book ∷ [])) joined.stands
        ∙ sym (text_append (up_to n).printed (last_line (up_to n).refusal (up_to n).book ∷ []))
        ∙ ap (λ (p : Part). text_of (all_lines p)) (sym (whole_is read))

    -- and the sentence on its refusal is that of the run
    pub whole_sentence : IsRead input n run → explanation (standing run) ≡ run_sentence readable file input
    unfolding run_sentence
    whole_sentence read = ap explanation ((texts_join under).stands ∙ ap ending (sym (whole_is read)))
