-- What holds of a book and is kept by every accepted call holds of the book after a step.
-- Assumes nothing.
use Prim.Native.Nat.{ℕ}
use mathlib.Core.Path.{◌≡◌}
use mathlib.Core.Bool.{Bool, true, false, cond}
use mathlib.Core.List.{List, []}
use lib.ListN.{length}
use Rattle.numbers.specs.Limits.{owners}
use Rattle.settlement.specs.Book.{Book}
use Rattle.settlement.specs.Events.{Call, hour_call, month_end_call, year_end_call, event_of, is_due, refusal, book_after}
use Rattle.hour_block.specs.Block.{amount_in, prices_in}
use Rattle.settlement_run.specs.Run.{Part, block_refusal, goes_on, and_then, event_part, if_due, hour_part, step_part}
use Rattle.settlement_run.proofs.Parts.{by_refusal, by_first}

module _ (P : Book → Type 0)
    (accepts : (call : Call) (book : Book) → refusal call book owners ≡ 0 → P book → P (book_after call book)) where
  pub then_keeps : (part : Part) (next : Book → Part) → P part.book → ((book : Book) → P book → P (next book).book)
      → P (and_then part next).book
  then_keeps part next holds keeps = by_first part next (λ (p : Part). P p.book) (λ _. keeps part.book holds) (λ _. holds)

  event_keeps : (call : Call) (book : Book) → P book → P (event_part call book).book
  unfolding event_part
  event_keeps call book holds =
      by_refusal (λ (p : Part). P p.book) (refusal call book owners) _ _ (λ goes. accepts call book goes holds) (λ _. holds)

  due_keeps : (call : Call) (book : Book) → P book → P (if_due call book).book
  unfolding if_due
  due_keeps call book holds = by_due (is_due (event_of call) book)
    where
      by_due : (due : Bool) → P (cond due (event_part call book) (goes_on [] [] book)).book
      by_due true = event_keeps call book holds
      by_due false = holds

  module _ (file block : List ℕ) where
    hour_keeps : (book : Book) → P book → P (hour_part file block book).book
    unfolding hour_part
    hour_keeps book holds =
        by_refusal (λ (p : Part). P p.book) (block_refusal book.year (length block)) _ _
        (λ _. event_keeps (hour_call file (prices_in block) (amount_in block)) book holds) (λ _. holds)

    pub part_keeps : (book : Book) → P book → P (step_part file block book).book
    unfolding step_part
    part_keeps book holds =
        then_keeps (and_then (hour_part file block book) (if_due month_end_call)) (if_due year_end_call)
        (then_keeps (hour_part file block book) (if_due month_end_call) (hour_keeps book holds) (due_keeps month_end_call))
        (due_keeps year_end_call)
