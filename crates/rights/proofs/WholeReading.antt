-- A reader over a whole file: each record once and in order, then none; over a file of wrong length, 4 at every step; for a year outside
-- the calendar's, 15 at every step.
-- Assumes nothing.
use Prim.Native.Nat.{ℕ, zero, suc, ◌+◌, ◌<◌, ◌≤◌}
use mathlib.Core.Path.{◌≡◌, refl, sym, ap, subst, ◌∙◌}
use mathlib.Core.Bool.{Bool, true, false, cond}
use mathlib.Core.List.{List}
use native.Mathlib.Numerals.{add-one}
use native.Mathlib.Omega.{arith}
use lib.Dec.{leb}
use lib.ListN.{length}
use borrow.Author.Tests.{leb-true, leb-false}
use Rattle.calendar.specs.Almanac.{is_outside}
use Rattle.rights.specs.Layout.{record_count, is_wrong_length, reading}
use Rattle.rights.specs.Reader.{Given, given_number, says_none, next_after, IsStep, IsReading, IsWholeReading}
use Rattle.rights.proofs.Steps.{step_outside, step_wrong, step_past, finished_past, finished_inside, moves_inside}

module _ (year : ℕ) (file : List ℕ) (given : ℕ → Given) (next : ℕ → ℕ) (run : IsReading year file given next) where
  after : (n : ℕ) → next (suc n) ≡ next_after year file (next n)
  after n = ap next (sym (add-one n)) ∙ (run.steps n).moves

  module _ (within : is_outside year ≡ false) (right : is_wrong_length (length file) ≡ false) where
    -- the reader moves by one record at each step, up to the last
    moves_on : (n : ℕ) → n ≤ record_count file → next n ≡ n
    moves_on zero up_to = run.starts
    moves_on (suc n) up_to =
        after n ∙ ap (next_after year file) (moves_on n (omega arith)) ∙ moves_inside year file n within right (omega arith) ∙ add-one n

    -- and never goes back
    stays_on : (n : ℕ) → record_count file ≤ n → record_count file ≤ next n
    stays_on zero past = omega arith
    stays_on (suc n) past = by_test (leb (record_count file) n) refl (λ before. stays_on n before)
      where
        by_test : (test : Bool) → leb (record_count file) n ≡ test → (record_count file ≤ n → record_count file ≤ next n)
            → record_count file ≤ next (suc n)
        by_test true e earlier =
            let stood : record_count file ≤ next n = earlier (leb-true _ _ e) in
            omega (arith, stood, after n ∙ sym (step_past year file (next n) within right stood).moves)
        by_test false e earlier =
            omega (arith, leb-false (record_count file) n e, moves_on (suc n) (omega (arith, leb-false (record_count file) n e)))

    -- a step before the last record is the step at the record of its number
    at : (n : ℕ) → n < record_count file → IsStep year file n (given n) (next (n + 1))
    at n inside = subst (λ (k : ℕ). IsStep year file k (given n) (next (n + 1))) (moves_on n (omega arith)) (run.steps n)

    pub whole_reading : IsWholeReading year file given
    whole_reading =
        record {
          number = λ n inside. (at n inside).number
              ∙ ap (λ (none : Bool). cond none 0 (reading year file n).refusal) (finished_inside year file n within right inside);
          right = λ n inside. (at n inside).right;
          faulty = λ n inside. (at n inside).faulty;
          gives = λ n inside. (at n inside).none ∙ finished_inside year file n within right inside;
          finished = λ n past. (run.steps n).none ∙ finished_past year file (next n) within right (stays_on n past);
        }

  -- "Over a file of wrong length it gives only 4"
  module _ (within : is_outside year ≡ false) (wrong : is_wrong_length (length file) ≡ true) where
    pub wrong_reading : (n : ℕ) → given_number (given n) ≡ 4
    wrong_reading n = (run.steps n).number ∙ sym (step_wrong year file (next n) within wrong).number

    pub wrong_gives : (n : ℕ) → says_none (given n) ≡ false
    wrong_gives n = (run.steps n).none ∙ sym (step_wrong year file (next n) within wrong).none

  -- "15 when the year is outside 2025 to 2099, .. and a reader then gives only 15"
  module _ (outside : is_outside year ≡ true) where
    pub outside_reading : (n : ℕ) → given_number (given n) ≡ 15
    outside_reading n = (run.steps n).number ∙ sym (step_outside year file (next n) outside).number

    pub outside_gives : (n : ℕ) → says_none (given n) ≡ false
    outside_gives n = (run.steps n).none ∙ sym (step_outside year file (next n) outside).none
