-- How the parts of a run follow each other: a part that goes on is followed by the next one, and a run that has stopped stays as it is.
-- Assumes nothing.
use Prim.Native.Nat.{ℕ, zero, suc, ◌+◌, ◌-◌, ◌≤◌}
use mathlib.Core.Path.{◌≡◌, refl, sym, ap, subst, ◌∙◌}
use mathlib.Core.Bool.{Bool}
use mathlib.Core.List.{List, ◌++◌, append-nil}
use native.Mathlib.Nat.{zero-add, suc-add}
use native.Mathlib.Omega.{arith}
use lib.ListN.{length}
use Rattle.numbers.specs.Refusals.{answer_by}
use Rattle.numbers.proofs.Refusals.{answer_accepted, answer_refused}
use Rattle.settlement.specs.Book.{Book}
use Rattle.settlement.specs.ByOwner.{read_off}
use Rattle.settlement_run.specs.declared.Run.{Run}
use Rattle.settlement_run.specs.Run.{Part, behind, and_then, step_part, opening, block_at, run_to}
use Rattle.settlement_run.specs.Calls.{standing}
use Rattle.settlement_run.specs.InnerContracts.{ending, StandsAt}

-- ---- one part after another

-- what holds of the answer by a refusal number: of the accepted one, and of the refused one
pub by_refusal : {A : Type 0} (P : A → Type 0) (refusal : ℕ) (accepted refused : A) → (refusal ≡ 0 → P accepted)
    → ((refusal ≡ 0 → ⊥) → P refused) → P (answer_by refusal accepted refused)
by_refusal P zero accepted refused goes stops = goes refl
by_refusal P (suc n) accepted refused goes stops = stops (λ e. omega arith)

module _ (part : Part) (next : Book → Part) where
  pub then_goes : part.refusal ≡ 0 → and_then part next ≡ behind part (next part.book)
  unfolding and_then
  then_goes goes = answer_accepted part.refusal _ part goes

  pub then_stops : (part.refusal ≡ 0 → ⊥) → and_then part next ≡ part
  unfolding and_then
  then_stops stopped = answer_refused part.refusal _ part stopped

  -- what holds of the two together: of both where the first goes on, and of the first alone
  pub by_first : (P : Part → Type 0) → (part.refusal ≡ 0 → P (behind part (next part.book))) → ((part.refusal ≡ 0 → ⊥) → P part)
      → P (and_then part next)
  unfolding and_then
  by_first P goes stops = by_refusal P part.refusal _ part goes stops

  -- the two together go on: so does each of them
  pub then_went : (and_then part next).refusal ≡ 0 → (part.refusal ≡ 0) × ((next part.book).refusal ≡ 0)
  then_went =
      by_first (λ (p : Part). p.refusal ≡ 0 → (part.refusal ≡ 0) × ((next part.book).refusal ≡ 0))
      (λ first goes. (first, goes)) (λ stopped goes. absurd (stopped goes))

-- ---- a run that stands where a part ends, and the next part

module _ (part : Part) (run : Run) (at : StandsAt part run) (next : Book → Part) where
  run_refusal : run.refusal ≡ part.refusal
  run_refusal = ap (λ (p : Part). p.refusal) at

  run_goes : part.refusal ≡ 0 → and_then (standing run) next ≡ behind (standing run) (next (read_off run.book))
  run_goes goes = then_goes (standing run) next (run_refusal ∙ goes)

  run_stops : (part.refusal ≡ 0 → ⊥) → and_then (standing run) next ≡ standing run
  run_stops stopped = then_stops (standing run) next (λ goes. stopped (sym run_refusal ∙ goes))

  -- it adds the lines that it adds to the part
  pub adds : (and_then part next).printed ≡ part.printed ++ (and_then (standing run) next).printed
  adds =
      by_first part next (λ (p : Part). p.printed ≡ part.printed ++ (and_then (standing run) next).printed)
      (λ goes. rw (run_goes goes) (ap (λ (p : Part). part.printed ++ (next p.book).printed) (sym at)))
      (λ stopped. rw (run_stops stopped) (sym (append-nil part.printed)))

  -- and where it then stands, the part with the next one ends
  pub stands_next : (result : Run) → StandsAt (and_then (standing run) next) result → StandsAt (and_then part next) result
  stands_next result stands =
      stands
      ∙ by_first part next (λ (p : Part). ending (and_then (standing run) next) ≡ ending p)
      (λ goes. rw (run_goes goes) (ap (λ (p : Part). ending (next p.book)) at)) (λ stopped. rw (run_stops stopped) at)

-- ---- block by block

module _ (readable : Bool) (file input : List ℕ) where
  pub run_none : run_to readable file input 0 ≡ opening readable (length file)
  unfolding run_to
  run_none = refl

  pub run_next : (n : ℕ)
      → run_to readable file input (suc n) ≡ and_then (run_to readable file input n) (step_part file (block_at input n))
  unfolding run_to
  run_next n = refl

  -- once the run has stopped, no block changes it
  pub stopped_stays : (n k : ℕ) → ((run_to readable file input n).refusal ≡ 0 → ⊥)
      → run_to readable file input (k + n) ≡ run_to readable file input n
  stopped_stays n zero stopped = ap (run_to readable file input) (zero-add n)
  stopped_stays n (suc k) stopped =
      ap (run_to readable file input) (suc-add k n)
      ∙ run_next (k + n)
      ∙ then_stops (run_to readable file input (k + n)) (step_part file (block_at input (k + n)))
      (λ goes. stopped (sym (ap (λ (p : Part). p.refusal) (stopped_stays n k stopped)) ∙ goes))
      ∙ stopped_stays n k stopped

  pub stopped_from : (n m : ℕ) → n ≤ m → ((run_to readable file input n).refusal ≡ 0 → ⊥)
      → run_to readable file input m ≡ run_to readable file input n
  stopped_from n m later stopped =
      let e : m - n + n ≡ m = omega arith in
      subst (λ (k : ℕ). run_to readable file input k ≡ run_to readable file input n) e (stopped_stays n (m - n) stopped)
