-- The reader over a lent rights file: what it gives next, and where it then stands.
-- Assumes nothing.
use Rattle.std.specs.Prelude.{ℕ, ◌+◌, ◌-◌, ◌<◌, ◌≤◌, ◌≡◌, Bool, true, false, not, cond, ◌&&◌, ◌||◌, List, leb, eqb, length, Option, Some, None, Result, Ok, Err}
use Rattle.std.specs.Iterator.{Count}
use Rattle.calendar.specs.Almanac.{is_outside}
use Rattle.rights.specs.declared.Right.{Right}
use Rattle.numbers.specs.declared.refusal.Refusal.{Refusal}
use Rattle.numbers.specs.Refusals.{number_in, record_in}
use Rattle.rights.specs.Layout.{record_count, is_wrong_length, refused_reading, reading}

-- what a reader gives: a record or a refusal, or none
abbrev pub Given : Type 0
Given = Option (Result Right Refusal)

-- the paper's number for what a reader gives: a record has none, "gives 7 for a bad one", "Over a file of wrong length it gives only
-- 4", and "a reader then gives only 15"; "says there is none" has none either
abbrev pub given_number : Given → ℕ
given_number (Some (Ok right)) = 0
given_number (Some (Err refusal)) = number_in refusal
given_number None = 0

-- the eight fields that it gives; zeros where it gives no record
abbrev pub given_right : Given → Right
given_right (Some (Ok right)) = right
given_right (Some (Err refusal)) = (refused_reading (number_in refusal)).right
given_right None = (refused_reading 0).right

-- the record that it names: "in 7 the record number" is that of the record it stands at
abbrev pub given_faulty : Given → ℕ
given_faulty (Some (Ok right)) = 0
given_faulty (Some (Err refusal)) = record_in refusal
given_faulty None = 0

-- whether it "says there is none"
abbrev pub says_none : Given → Bool
says_none (Some given) = false
says_none None = true

-- where a reader gives only a refusal: 15 for a year outside the calendar's, "Over a file of wrong length it gives only 4"
abbrev pub has_no_records : ℕ → List ℕ → Bool
has_no_records year file = is_outside year || is_wrong_length (length file)

-- "exactly when every record has been given"
unfoldable pub is_finished : ℕ → List ℕ → ℕ → Bool
is_finished year file next = not (has_no_records year file) && leb (record_count file) next

-- how many records are left to give; a reader that gives only a refusal has no end
abbrev pub records_left : ℕ → List ℕ → ℕ → Count
records_left year file next = record { bounded = not (has_no_records year file); bound = record_count file - next }

-- "moves past it": past each record, good or bad, and nowhere where a read gives 15 or 4
unfoldable pub next_after : ℕ → List ℕ → ℕ → ℕ
next_after year file next = cond (eqb (reading year file next).refusal 15 || eqb (reading year file next).refusal 4) next (next + 1)

-- one step of a reader that stands at a record number: what it gives is what the read by that number gives, but for "there is none"
pub record IsStep (year : ℕ) (file : List ℕ) (next : ℕ) (given : Given) (after : ℕ) : Type 0 where
  pub none : says_none given ≡ is_finished year file next
  pub number : given_number given ≡ cond (is_finished year file next) 0 (reading year file next).refusal
  pub right : given_right given ≡ (reading year file next).right
  pub faulty : given_faulty given ≡ cond (eqb (reading year file next).refusal 7) next 0
  pub moves : after ≡ next_after year file next

-- a reader over a file, step by step: it starts at the first record, as a new reader promises, and each step is one that a
-- reader promises, from where the step before left it
pub record IsReading (year : ℕ) (file : List ℕ) (given : ℕ → Given) (next : ℕ → ℕ) : Type 0 where
  pub starts : next 0 ≡ 0
  pub steps : (n : ℕ) → IsStep year file (next n) (given n) (next (n + 1))

-- "gives one record after another", each as a read by its number gives it, "and says there is none exactly when every record has
-- been given"
pub record IsWholeReading (year : ℕ) (file : List ℕ) (given : ℕ → Given) : Type 0 where
  pub number : (step : ℕ) → step < record_count file → given_number (given step) ≡ (reading year file step).refusal
  pub right : (step : ℕ) → step < record_count file → given_right (given step) ≡ (reading year file step).right
  pub faulty : (step : ℕ) → step < record_count file → given_faulty (given step) ≡ cond (eqb (reading year file step).refusal 7) step 0
  pub gives : (step : ℕ) → step < record_count file → says_none (given step) ≡ false
  pub finished : (step : ℕ) → record_count file ≤ step → says_none (given step) ≡ true
