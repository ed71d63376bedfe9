-- A reader's step, case by case: for a year outside the calendar's, over a file of wrong length, past the last record, at a good record and at a
-- bad one. And that a place has one step.
-- Assumes nothing.
use Prim.Native.Nat.{ℕ, ◌+◌, ◌≤◌, ◌<◌}
use mathlib.Core.Path.{◌≡◌, refl, sym, ◌∙◌}
use mathlib.Core.Bool.{Bool, true, false, cond, ◌||◌, false≢true}
use mathlib.Core.List.{List}
use lib.Dec.{eqb, leb}
use lib.ListN.{length}
use borrow.Author.Tests.{le-leb, lt-leb, leb-true, leb-false, ne_eqb}
use Rattle.rights.specs.declared.Right.{Right}
use Rattle.std.specs.Prelude.{Result, Some, None, Ok, Err}
use Rattle.numbers.specs.declared.refusal.Refusal.{Refusal}
use Rattle.numbers.specs.declared.refusal.Refusal.TheVariants.{WrongLength, BadRight, NoSuchYear}
use Rattle.numbers.specs.Refusals.{answered, number_in, refusal_of}
use Rattle.numbers.proofs.Refusals.{refusal_is, number_some}
use Rattle.calendar.specs.Almanac.{is_outside, days_in_year}
use Rattle.rights.specs.Layout.{Reading, record_count, right_at, is_good, is_wrong_length, read_refusal, refused_reading, reading}
use Rattle.rights.specs.Reader.{Given, given_number, given_right, given_faulty, says_none, is_finished, next_after, IsStep}
use Rattle.rights.proofs.RecordCalls.{record_15, record_wrong, record_past}
use Rattle.rights.proofs.Readings.{read_by, read_good, read_bad, answered_good, answered_bad}

module _ (year : ℕ) (file : List ℕ) (next : ℕ) where
  -- a step, from whether the reader has finished and what the read by its number gives
  step_of : {given : Given} {after : ℕ} (finished : Bool) (read : Reading) → is_finished year file next ≡ finished → reading year file next ≡ read
      → says_none given ≡ finished → given_number given ≡ cond finished 0 read.refusal → given_right given ≡ read.right
      → given_faulty given ≡ cond (eqb read.refusal 7) next 0 → after ≡ cond (eqb read.refusal 15 || eqb read.refusal 4) next (next + 1)
      → IsStep year file next given after
  unfolding next_after
  step_of finished read f r none number right faulty moves =
      record {
        none = none ∙ sym f;
        number = number ∙ sym (λ i. cond (f i) 0 (r i).refusal);
        right = right ∙ sym (λ i. (r i).right);
        faulty = faulty ∙ sym (λ i. cond (eqb (r i).refusal 7) next 0);
        moves = moves ∙ sym (λ i. cond (eqb (r i).refusal 15 || eqb (r i).refusal 4) next (next + 1));
      }

  module _ (outside : is_outside year ≡ true) where
    read_outside : reading year file next ≡ refused_reading 15
    read_outside = read_by year file next (record_15 year file next _ outside)

    finished_outside : is_finished year file next ≡ false
    unfolding is_finished
    finished_outside = rw outside

    -- its number
    pub step_no_year : cond (is_finished year file next) 0 (reading year file next).refusal ≡ 15
    step_no_year = rw (finished_outside, read_outside)

    pub step_outside : IsStep year file next (Some (Err NoSuchYear)) next
    step_outside = step_of false (refused_reading 15) finished_outside read_outside refl refl refl refl refl

  module _ (within : is_outside year ≡ false) (wrong : is_wrong_length (length file) ≡ true) where
    read_wrong : reading year file next ≡ refused_reading 4
    read_wrong = read_by year file next (record_wrong year file next _ within wrong)

    finished_wrong : is_finished year file next ≡ false
    unfolding is_finished
    finished_wrong = rw (within, wrong)

    pub step_wrong : IsStep year file next (Some (Err WrongLength)) next
    step_wrong = step_of false (refused_reading 4) finished_wrong read_wrong refl refl refl refl refl

  module _ (within : is_outside year ≡ false) (right : is_wrong_length (length file) ≡ false) where
    read_past : record_count file ≤ next → reading year file next ≡ refused_reading 4
    read_past past = read_by year file next (record_past year file next _ within right past)

    pub finished_past : record_count file ≤ next → is_finished year file next ≡ true
    unfolding is_finished
    finished_past past = rw (within, right, le-leb (record_count file) next past)

    pub finished_inside : next < record_count file → is_finished year file next ≡ false
    unfolding is_finished
    finished_inside inside = rw (within, right, lt-leb (record_count file) next inside)

    pub step_past : record_count file ≤ next → IsStep year file next None next
    step_past past = step_of true (refused_reading 4) (finished_past past) (read_past past) refl refl refl refl refl

    module _ (inside : next < record_count file) where
      step_good : is_good (days_in_year year) (right_at file next) ≡ true → IsStep year file next (Some (Ok (right_at file next))) (next + 1)
      step_good good =
          step_of false _ (finished_inside inside) (read_good year file next within right inside good) refl refl refl refl refl

      step_bad : is_good (days_in_year year) (right_at file next) ≡ false → IsStep year file next (Some (Err (BadRight next))) (next + 1)
      step_bad bad = step_of false _ (finished_inside inside) (read_bad year file next within right inside bad) refl refl refl refl refl

      -- what a read by the number answers is given
      pub step_read : IsStep year file next (Some (answered (read_refusal year file next) next (right_at file next))) (next + 1)
      step_read = by_test (is_good (days_in_year year) (right_at file next)) refl
        where
          by_test : (test : Bool) → is_good (days_in_year year) (right_at file next) ≡ test
              → IsStep year file next (Some (answered (read_refusal year file next) next (right_at file next))) (next + 1)
          by_test true e = rw (answered_good year file next within right inside e) (step_good e)
          by_test false e = rw (answered_bad year file next within right inside e) (step_bad e)

      -- at a record the reader moves on, whether it is good or bad
      pub moves_inside : next_after year file next ≡ next + 1
      moves_inside = by_test (is_good (days_in_year year) (right_at file next)) refl
        where
          by_test : (test : Bool) → is_good (days_in_year year) (right_at file next) ≡ test → next_after year file next ≡ next + 1
          by_test true e = sym (step_good e).moves
          by_test false e = sym (step_bad e).moves

-- what is given follows from its number, its right, the record that it names and whether it says that there is none
abbrev given_from : ℕ → Right → ℕ → Bool → Given
given_from number right faulty none = cond none None (cond (eqb number 0) (Some (Ok right)) (Some (Err (refusal_of number faulty))))

from_parts : (given : Given) → given_from (given_number given) (given_right given) (given_faulty given) (says_none given) ≡ given
from_parts (Some (Ok right)) = refl
from_parts (Some (Err refusal)) = rw (ne_eqb (number_in refusal) 0 (number_some refusal), refusal_is refusal)
from_parts None = refl

pub same_given : (given other : Given) → given_number given ≡ given_number other → given_right given ≡ given_right other
    → given_faulty given ≡ given_faulty other → says_none given ≡ says_none other → given ≡ other
same_given given other number right faulty none =
    sym (from_parts given) ∙ (λ i. given_from (number i) (right i) (faulty i) (none i)) ∙ from_parts other

-- so there is one step from a place, and no other
pub one_step : (year : ℕ) (file : List ℕ) (next : ℕ) {given other : Given} {after later : ℕ} → IsStep year file next given after
    → IsStep year file next other later → (given ≡ other) × (after ≡ later)
one_step year file next {given} {other} step same =
    (same_given given other (step.number ∙ sym same.number) (step.right ∙ sym same.right) (step.faulty ∙ sym same.faulty) (step.none ∙ sym same.none), step.moves ∙ sym same.moves)

-- what a step gives over a file of right length, that of the read by the number; and where it gives none, all records have been given
module _ (year : ℕ) (file : List ℕ) (next : ℕ) (within : is_outside year ≡ false) (right : is_wrong_length (length file) ≡ false) {after : ℕ} where
  pub step_given : {given : Result Right Refusal} → IsStep year file next (Some given) after
      → (next < record_count file) × (given ≡ answered (read_refusal year file next) next (right_at file next)) × (after ≡ next + 1)
  step_given {given} step = by_test (leb (record_count file) next) refl
    where
      by_test : (past : Bool) → leb (record_count file) next ≡ past
          → (next < record_count file) × (given ≡ answered (read_refusal year file next) next (right_at file next)) × (after ≡ next + 1)
      by_test true e = absurd (false≢true (step.none ∙ finished_past year file next within right (leb-true _ _ e)))
      by_test false e =
          let inside : next < record_count file = leb-false _ _ e in
          let only = one_step year file next step (step_read year file next within right inside) in
          (inside, cc only.0, only.1)

  pub step_none : IsStep year file next None after → record_count file ≤ next
  step_none step = by_test (leb (record_count file) next) refl
    where
      by_test : (past : Bool) → leb (record_count file) next ≡ past → record_count file ≤ next
      by_test true e = leb-true _ _ e
      by_test false e = absurd (false≢true (sym (step.none ∙ finished_inside year file next within right (leb-false _ _ e))))
