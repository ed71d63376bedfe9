-- What a read of a record that the file has says of that record.
-- Assumes nothing.
use Prim.Native.Nat.{ℕ, zero, suc, ◌/◌, ◌<◌, ◌≤◌, ◌%◌}
use mathlib.Core.Path.{◌≡◌, refl, sym, ap, ◌∙◌}
use mathlib.Core.Bool.{true, false, not}
use mathlib.Core.List.{List}
use native.Mathlib.Omega.{arith}
use lib.Dec.{ltb, eqb}
use lib.ListN.{length}
use borrow.Author.Tests.{eqb-true, ltb-false, not-false}
use Rattle.std.specs.Prelude.{Result, Ok, Err}
use Rattle.std.specs.Result.{result_unwrap_or}
use Rattle.numbers.specs.declared.refusal.Refusal.{Refusal}
use Rattle.numbers.specs.declared.refusal.Refusal.TheVariants.{BadRight}
use Rattle.numbers.specs.Refusals.{answer_by, answer_number, answered}
use Rattle.numbers.proofs.Booleans.{neither_true}
use Rattle.calendar.specs.Almanac.{is_outside, days_in_year}
use Rattle.rights.specs.declared.Right.{Right}
use Rattle.rights.specs.Layout.{Reading, record_bytes, most_bytes, record_count, right_at, right_from, is_good, is_wrong_length, record_refusal, read_refusal, reading, refused_reading}
use Rattle.rights.proofs.RecordCalls.{record_15, record_7, record_0, record_number, record_by_length}

-- a file of good length has at most 4,096 records
pub records_most : (file : List ℕ) → is_wrong_length (length file) ≡ false → record_count file ≤ 4096
records_most file right =
    omega
    (arith, ltb-false most_bytes (length file) (neither_true (not (eqb (length file % record_bytes) 0)) (ltb most_bytes (length file)) right).1)

-- a file of right length has whole records
pub whole_records : (file : List ℕ) → is_wrong_length (length file) ≡ false → length file % record_bytes ≡ 0
whole_records file right =
    eqb-true (length file % record_bytes) 0 (not-false (eqb (length file % record_bytes) 0) (neither_true (not (eqb (length file % record_bytes) 0)) (ltb most_bytes (length file)) right).0)

-- a record by its place
pub at_place : (file : List ℕ) (place : ℕ) → place % record_bytes ≡ 0 → right_from file place ≡ right_at file (place / record_bytes)
at_place file place whole = ap (right_from file) (omega (arith, whole))

module _ (year : ℕ) (file : List ℕ) (number : ℕ) where
  -- a read by its refusal number
  abbrev reading_by : ℕ → Reading
  reading_by k = answer_by k (record { refusal = 0; right = right_at file number }) (refused_reading k)

  pub read_by : {k : ℕ} → read_refusal year file number ≡ k → reading year file number ≡ reading_by k
  unfolding reading
  read_by e = ap reading_by e

  -- and what its call answers
  pub answered_by : {k : ℕ} → read_refusal year file number ≡ k
      → answered (read_refusal year file number) number (right_at file number) ≡ answered k number (right_at file number)
  answered_by e = ap (λ (k : ℕ). answered k number (right_at file number)) e

  module _ (within : is_outside year ≡ false) (long : is_wrong_length (length file) ≡ false) (inside : number < record_count file) where
    pub read_good : is_good (days_in_year year) (right_at file number) ≡ true
        → reading year file number ≡ record { refusal = 0; right = right_at file number }
    read_good good = read_by (record_0 year file number _ within long inside good)

    pub read_bad : is_good (days_in_year year) (right_at file number) ≡ false → reading year file number ≡ refused_reading 7
    read_bad bad = read_by (record_7 year file number _ within long inside bad)

    pub answered_good : is_good (days_in_year year) (right_at file number) ≡ true
        → answered (read_refusal year file number) number (right_at file number) ≡ Ok (right_at file number)
    answered_good good = answered_by (record_0 year file number _ within long inside good)

    pub answered_bad : is_good (days_in_year year) (right_at file number) ≡ false
        → answered (read_refusal year file number) number (right_at file number) ≡ Err (BadRight number)
    answered_bad bad = answered_by (record_7 year file number _ within long inside bad)

-- files of one length that have the same record there read alike
pub reads_alike : (year : ℕ) (one two : List ℕ) (number : ℕ) → length one ≡ length two → right_at one number ≡ right_at two number
    → reading year one number ≡ reading year two number
unfolding reading
reads_alike year one two number long same = λ i. answer_by (number_is i) (record { refusal = 0; right = same i }) (refused_reading (number_is i))
  where
    number_is : read_refusal year one number ≡ read_refusal year two number
    number_is = record_by_length year one two number (right_at one number) long ∙ ap (record_refusal year two number) same

-- a read for a year outside the calendar's
pub read_no_year : (year : ℕ) (file : List ℕ) (number : ℕ) → is_outside year ≡ true → (reading year file number).refusal ≡ 15
read_no_year year file number outside = ap (λ (read : Reading). read.refusal) (read_by year file number (record_15 year file number _ outside))

-- what a read's call answers, in numbers: the read's number, and its right or zeros
module _ (year : ℕ) (file : List ℕ) (number : ℕ) where
  abbrev answer : Result Right Refusal
  answer = answered (read_refusal year file number) number (right_at file number)

  same_number : (reading year file number).refusal ≡ read_refusal year file number
  unfolding reading
  same_number = by_number (read_refusal year file number)
    where
      by_number : (k : ℕ) → (answer_by k (record { refusal = 0; right = right_at file number }) (refused_reading k)).refusal ≡ k
      by_number zero = refl
      by_number (suc n) = refl

  pub read_number : answer_number answer ≡ (reading year file number).refusal
  read_number = record_number year file number _ (right_at file number) ∙ sym same_number

  pub read_or_none : result_unwrap_or answer (refused_reading 0).right ≡ (reading year file number).right
  unfolding reading
  read_or_none = by_number (read_refusal year file number)
    where
      by_number : (k : ℕ) → result_unwrap_or (answered k number (right_at file number)) (refused_reading 0).right
          ≡ (answer_by k (record { refusal = 0; right = right_at file number }) (refused_reading k)).right
      by_number zero = refl
      by_number (suc n) = refl
