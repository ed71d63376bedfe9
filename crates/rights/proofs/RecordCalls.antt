-- The refusal of a record call, row by row of its table.
-- Assumes nothing.
use Prim.Native.Nat.{ℕ, ◌/◌, ◌<◌, ◌≤◌}
use mathlib.Core.Path.{◌≡◌, refl, ap}
use mathlib.Core.Bool.{true, false, not, ◌||◌}
use mathlib.Core.List.{List, [], ◌∷◌}
use lib.Dec.{leb}
use lib.ListN.{length}
use borrow.Author.Tests.{le-leb, lt-leb}
use Rattle.numbers.specs.Refusals.{answer_number, answered, first_refusal, ◌if◌}
use Rattle.numbers.proofs.Refusals.{is_number, number_answered}
use Rattle.calendar.specs.Almanac.{is_outside, days_in_year}
use Rattle.rights.specs.declared.Right.{Right}
use Rattle.rights.specs.Layout.{record_bytes, record_count, is_good, is_wrong_length, record_refusal}

module _ (year : ℕ) (file : List ℕ) (number : ℕ) (right : Right) where
  pub record_15 : is_outside year ≡ true → record_refusal year file number right ≡ 15
  unfolding record_refusal first_refusal
  record_15 outside = rw outside

  module _ (within : is_outside year ≡ false) where
    pub record_wrong : is_wrong_length (length file) ≡ true → record_refusal year file number right ≡ 4
    unfolding record_refusal first_refusal
    record_wrong wrong = rw (within, wrong)

    module _ (long : is_wrong_length (length file) ≡ false) where
      pub record_past : record_count file ≤ number → record_refusal year file number right ≡ 4
      unfolding record_refusal first_refusal
      record_past past = rw (within, long, le-leb (record_count file) number past)

      module _ (inside : number < record_count file) where
        pub record_7 : is_good (days_in_year year) right ≡ false → record_refusal year file number right ≡ 7
        unfolding record_refusal first_refusal
        record_7 bad = rw (within, long, lt-leb (record_count file) number inside, bad)

        pub record_0 : is_good (days_in_year year) right ≡ true → record_refusal year file number right ≡ 0
        unfolding record_refusal first_refusal
        record_0 good = rw (within, long, lt-leb (record_count file) number inside, good)

  -- the number of what a call answers
  pub record_number : {A : Type 0} (value : A) → answer_number (answered (record_refusal year file number right) number value) ≡ record_refusal year file number right
  unfolding record_refusal
  record_number value = number_answered (record_refusal year file number right) number value (is_number _ refl)

-- of the file it looks at the length alone
pub record_by_length : (year : ℕ) (one two : List ℕ) (number : ℕ) (right : Right) → length one ≡ length two
    → record_refusal year one number right ≡ record_refusal year two number right
unfolding record_refusal
record_by_length year one two number right long =
    ap
    (λ (bytes : ℕ). first_refusal
    ((15 if is_outside year)
    ∷ (4 if is_wrong_length bytes || leb (bytes / record_bytes) number)
    ∷ (7 if not (is_good (days_in_year year) right))
    ∷ []))
    long
