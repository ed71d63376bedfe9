-- The lines after a row call; and that an owner's rows add up to its target, and to its line of a target call.
-- Assumes nothing.
use Prim.Native.Nat.{ℕ, ◌<◌}
use mathlib.Core.Path.{◌≡◌, sym, ap, ◌∙◌}
use mathlib.Core.Bool.{cond, not}
use mathlib.Core.List.{List}
use lib.Dec.{eqb}
use lib.ListN.{length, get_or}
use lib.IntN.{ℤ, pos}
use borrow.Author.Tests.{eq-eqb}
use Rattle.numbers.proofs.Refusals.{answer_accepted, answer_refused}
use Rattle.numbers.proofs.Counts.{get_or_list_below}
use Rattle.numbers.proofs.Signed.{sum_ext}
use Rattle.calendar.specs.Year.{operating_hour}
use Rattle.rights.specs.Layout.{record_count, right_at}
use Rattle.target.specs.Target.{row_at, own_row, own_sum, target, call_refusal, target_refusal}
use Rattle.target.specs.Rows.{rows, rows_refusal, row_lines, RowsAddUp, CallsAddUp}
use Rattle.target.proofs.Answer.{writes_targets, target_at}

-- a refused call leaves the lines as they were
pub keeps_row_lines : (year : ℕ) (file : List ℕ) (prices : List ℤ) (hour : ℕ) (before : List ℤ)
    → (rows_refusal year file prices hour (length before) ≡ 0 → ⊥) → row_lines year file prices hour before ≡ before
unfolding row_lines
keeps_row_lines year file prices hour before some = answer_refused _ (rows year file prices hour) before some

-- the lines after an accepted call are the rows
pub writes_rows : (year : ℕ) (file : List ℕ) (prices : List ℤ) (hour : ℕ) (before : List ℤ) → rows_refusal year file prices hour (length before) ≡ 0
    → row_lines year file prices hour before ≡ rows year file prices hour
unfolding row_lines
writes_rows year file prices hour before clear = answer_accepted _ (rows year file prices hour) before clear

-- a record's line is its row
line_at : (year : ℕ) (file : List ℕ) (prices : List ℤ) (hour : ℕ) (before : List ℤ) → rows_refusal year file prices hour (length before) ≡ 0
    → (number : ℕ) → number < record_count file
    → get_or (row_lines year file prices hour before) number (pos 0) ≡ row_at file prices (operating_hour year hour) number
unfolding rows
line_at year file prices hour before clear number inside =
    ap (λ (l : List ℤ). get_or l number (pos 0)) (writes_rows year file prices hour before clear)
    ∙ get_or_list_below (row_at file prices (operating_hour year hour)) (record_count file) (pos 0) number inside

pub rows_add_up : RowsAddUp
unfolding target own_sum own_row
rows_add_up year file prices hour owner before clear =
    sum_ext (own_row file owner (λ number. get_or (row_lines year file prices hour before) number (pos 0))) (own_row file owner (row_at file prices (operating_hour year hour))) (record_count file)
    (λ number inside. ap (λ (z : ℤ). cond (eqb (right_at file number).owner owner) z (pos 0)) (line_at year file prices hour before clear number inside))

-- with as many lines as it writes, each call is refused by the same rows
pub calls_add_up : CallsAddUp
calls_add_up year file prices hour owner before lines each all inside = (
  same,
  λ clear.
      rows_add_up year file prices hour owner before clear
      ∙ sym (target_at year file prices hour owner inside)
      ∙ ap (λ (l : List ℤ). get_or l owner (pos 0)) (sym (writes_targets year file prices hour lines (sym same ∙ clear))),
)
  where
    same : rows_refusal year file prices hour (length before) ≡ target_refusal year file prices hour (length lines)
    same = ap (call_refusal year file prices hour) (ap not (eq-eqb _ _ each) ∙ sym (ap not (eq-eqb _ _ all)))
