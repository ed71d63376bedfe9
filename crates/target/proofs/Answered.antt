-- What an answer says of the call that gave it; and what a read that is answered says of the file's record.
-- Assumes nothing.
use Prim.Native.Nat.{ℕ, ◌<◌}
use mathlib.Core.Path.{◌≡◌, refl, sym, ap, ◌∙◌}
use mathlib.Core.Bool.{Bool, true, false}
use mathlib.Core.List.{List}
use native.Mathlib.Omega.{arith}
use lib.ListN.{length}
use Rattle.std.specs.Prelude.{Ok, Err}
use Rattle.numbers.specs.declared.refusal.Refusal.{Refusal}
use Rattle.numbers.specs.Refusals.{answered}
use Rattle.numbers.proofs.Refusals.{answered_err, refused_with}
use Rattle.calendar.specs.Almanac.{is_outside, days_in_year}
use Rattle.rights.specs.declared.Right.{Right}
use Rattle.rights.specs.Layout.{record_count, right_at, is_good, is_wrong_length, read_refusal}
use Rattle.rights.proofs.Readings.{answered_good, answered_bad}

-- a refusal is that of the number and the record, whatever else the call would give
pub answered_refusal : {A B : Type 0} (number faulty : ℕ) (value : A) (other : B) (refusal : Refusal)
    → answered number faulty value ≡ Err refusal → (number ≡ 0 → ⊥) × (Err refusal ≡ answered number faulty other)
answered_refusal number faulty value other refusal is =
    let told = answered_err number faulty value is in (λ none. omega arith, ap Err told.1 ∙ sym (refused_with number faulty other told.0))

module _ (year : ℕ) (file : List ℕ) (number : ℕ) (within : is_outside year ≡ false) (long : is_wrong_length (length file) ≡ false) (inside : number < record_count file) where
  -- it gives the file's right, which is good
  pub read_right : (right : Right) → answered (read_refusal year file number) number (right_at file number) ≡ Ok right
      → (right ≡ right_at file number) × (is_good (days_in_year year) right ≡ true)
  read_right right is = by_test (is_good (days_in_year year) (right_at file number)) refl
    where
      by_test : (good : Bool) → is_good (days_in_year year) (right_at file number) ≡ good → (right ≡ right_at file number) × (is_good (days_in_year year) right ≡ true)
      by_test true good =
          let same : right ≡ right_at file number = cc (answered_good year file number within long inside good) in
          (same, ap (is_good (days_in_year year)) same ∙ good)
      by_test false bad = cc (answered_bad year file number within long inside bad)
