-- The refusal of a whole file, row by row of its table, and the record that it names.
-- Assumes nothing.
use Prim.Native.Nat.{ℕ, ◌<◌, ◌≤◌}
use mathlib.Core.Path.{◌≡◌, refl, sym, ap, subst, ◌∙◌}
use mathlib.Core.Bool.{Bool, true, false, cond, not, ◌||◌, false≢true}
use mathlib.Core.List.{List, []}
use native.Mathlib.Decide.{ℕ_discrete}
use lib.Dec.{eqb}
use lib.ListN.{length}
use native.Mathlib.Omega.{arith}
use borrow.Author.Tests.{ne_eqb, not-false}
use Rattle.numbers.specs.Lists.{any_below, lowest_below, IsLowest}
use Rattle.std.specs.Prelude.{Result, Ok, Err}
use Rattle.numbers.specs.declared.refusal.Refusal.{Refusal}
use Rattle.numbers.specs.declared.refusal.Refusal.TheVariants.{WrongLength, BadRight, UnpricedNode, NoSuchYear}
use Rattle.numbers.specs.Refusals.{first_refusal, answered}
use Rattle.numbers.proofs.Any.{any_absent, any_here, any_miss}
use Rattle.numbers.proofs.Lowest.{lowest_only, lowest_found, lowest_inside, lowest_past, lowest_within}
use Rattle.numbers.proofs.Refusals.{is_within, each_number, has_refusal, refusal_next, refusal_clear}
use Rattle.calendar.specs.Almanac.{is_outside, days_in_year}
use Rattle.rights.specs.Layout.{record_count, right_at, is_good, is_wrong_length}
use Rattle.rights.specs.Faults.{is_unpriced, fault_at, any_fault, fault_rows, file_refusal, faulty_record}

module _ (year prices : ℕ) (file : List ℕ) where
  -- the lowest record with a fault
  abbrev lowest : ℕ → ℕ
  lowest refusal = lowest_below (fault_at year prices file refusal) (record_count file)

  -- whether some record has the fault, by where the lowest stands
  pub some_fault : (refusal : ℕ) → lowest refusal < record_count file → any_fault year prices file refusal ≡ true
  unfolding any_fault
  some_fault refusal inside = lowest_inside (fault_at year prices file refusal) (record_count file) inside

  pub no_fault : (refusal : ℕ) → record_count file ≤ lowest refusal → any_fault year prices file refusal ≡ false
  unfolding any_fault
  no_fault refusal past = lowest_past (fault_at year prices file refusal) (record_count file) past

  pub file_15 : is_outside year ≡ true → 15 ≡ file_refusal year prices file
  unfolding file_refusal fault_rows first_refusal
  file_15 outside = rw outside

  module _ (within : is_outside year ≡ false) where
    pub file_4 : is_wrong_length (length file) ≡ true → 4 ≡ file_refusal year prices file
    unfolding file_refusal fault_rows first_refusal
    file_4 wrong = rw (within, wrong)

    pub file_7 : is_wrong_length (length file) ≡ false → any_fault year prices file 7 ≡ true → 7 ≡ file_refusal year prices file
    unfolding file_refusal fault_rows first_refusal
    file_7 right bad = rw (within, right, bad)

    pub file_8 : is_wrong_length (length file) ≡ false → any_fault year prices file 7 ≡ false → any_fault year prices file 8 ≡ true
        → 8 ≡ file_refusal year prices file
    unfolding file_refusal fault_rows first_refusal
    file_8 right good unpriced = rw (within, right, good, unpriced)

    pub file_0 : is_wrong_length (length file) ≡ false → any_fault year prices file 7 ≡ false → any_fault year prices file 8 ≡ false
        → 0 ≡ file_refusal year prices file
    unfolding file_refusal fault_rows first_refusal
    file_0 right good priced = rw (within, right, good, priced)

    -- the file decides alone where its length is right
    pub file_rows : is_wrong_length (length file) ≡ false → file_refusal year prices file ≡ first_refusal (fault_rows year prices file)
    unfolding file_refusal
    file_rows right = refusal_next 15 _ within ∙ refusal_next 4 (fault_rows year prices file) right

  -- no record has a fault
  pub no_faults : any_fault year prices file 7 ≡ false → any_fault year prices file 8 ≡ false → first_refusal (fault_rows year prices file) ≡ 0
  unfolding fault_rows first_refusal
  no_faults good priced = rw (good, priced)

  -- some record has one
  pub some_faults : (any_fault year prices file 7 || any_fault year prices file 8) ≡ true → first_refusal (fault_rows year prices file) ≡ 0 → ⊥
  unfolding fault_rows first_refusal
  some_faults either clear = by_test (any_fault year prices file 7) (any_fault year prices file 8) either clear
    where
      by_test : (bad unpriced : Bool) → (bad || unpriced) ≡ true → cond {A = ℕ} bad 7 (cond unpriced 8 0) ≡ 0 → ⊥
      by_test true unpriced _ clear = omega arith
      by_test false true _ clear = omega arith
      by_test false false none _ = false≢true none

  -- 7 and 8 alone come from these rows, each only where some record has the fault
  pub rows_within : is_within 7 8 (fault_rows year prices file) ≡ true
  unfolding fault_rows
  rows_within = refl

  -- and each of the two is a refusal's
  pub rows_numbers : each_number has_refusal (fault_rows year prices file) ≡ true
  unfolding fault_rows
  rows_numbers = refl

  pub fault_from_rows : (k : ℕ) → (k ≡ 0 → ⊥) → first_refusal (fault_rows year prices file) ≡ k → any_fault year prices file k ≡ true
  unfolding fault_rows first_refusal
  fault_from_rows k some is = by_test (any_fault year prices file 7) (any_fault year prices file 8) refl refl is
    where
      by_test : (bad unpriced : Bool) → any_fault year prices file 7 ≡ bad → any_fault year prices file 8 ≡ unpriced
          → cond {A = ℕ} bad 7 (cond unpriced 8 0) ≡ k → any_fault year prices file k ≡ true
      by_test true unpriced e _ is = subst (λ (n : ℕ). any_fault year prices file n ≡ true) is e
      by_test false true _ e is = subst (λ (n : ℕ). any_fault year prices file n ≡ true) is e
      by_test false false _ _ is = absurd (some (sym is))

  -- one record's fault, by its right
  pub fault_7 : (number : ℕ) → fault_at year prices file 7 number ≡ not (is_good (days_in_year year) (right_at file number))
  unfolding fault_at
  fault_7 number = refl

  pub fault_8 : (number : ℕ) → fault_at year prices file 8 number ≡ is_unpriced prices (right_at file number)
  unfolding fault_at
  fault_8 number = refl

  -- a file's fault, from one record or from all
  pub any_fault_here : (refusal number : ℕ) → number < record_count file → fault_at year prices file refusal number ≡ true
      → any_fault year prices file refusal ≡ true
  unfolding any_fault
  any_fault_here refusal number inside here = any_here (fault_at year prices file refusal) (record_count file) number inside here

  pub any_bad : any_fault year prices file 7 ≡ any_below (λ (number : ℕ). not (is_good (days_in_year year) (right_at file number))) (record_count file)
  unfolding any_fault fault_at
  any_bad = refl

  pub any_unpriced : any_fault year prices file 8 ≡ any_below (λ (number : ℕ). is_unpriced prices (right_at file number)) (record_count file)
  unfolding any_fault fault_at
  any_unpriced = refl

  pub no_fault_to : (refusal : ℕ) → any_below (fault_at year prices file refusal) (record_count file) ≡ false
      → any_fault year prices file refusal ≡ false
  unfolding any_fault
  no_fault_to refusal none = none

  -- an accepted file: the year is the calendar's, its length is right, and each of its records is good and has its prices
  clear_rows : file_refusal year prices file ≡ 0
      → (is_outside year ≡ false) × (is_wrong_length (length file) ≡ false) × (first_refusal (fault_rows year prices file) ≡ 0)
  unfolding file_refusal
  clear_rows clear =
      let of_year = refusal_clear 15 (is_outside year) _ (omega arith) clear in
      let of_length = refusal_clear 4 (is_wrong_length (length file)) (fault_rows year prices file) (omega arith) of_year.1 in
      (of_year.0, of_length.0, of_length.1)

  pub clear_year : file_refusal year prices file ≡ 0 → is_outside year ≡ false
  clear_year clear = (clear_rows clear).0

  pub clear_length : file_refusal year prices file ≡ 0 → is_wrong_length (length file) ≡ false
  clear_length clear = (clear_rows clear).1

  pub clear_record : file_refusal year prices file ≡ 0 → (number : ℕ) → number < record_count file
      → (is_good (days_in_year year) (right_at file number) ≡ true) × (is_unpriced prices (right_at file number) ≡ false)
  unfolding fault_rows any_fault
  clear_record clear number inside =
      let bad = refusal_clear 7 (any_fault year prices file 7) _ (omega arith) (clear_rows clear).2 in
      let unpriced = refusal_clear 8 (any_fault year prices file 8) [] (omega arith) bad.1 in (
        not-false (is_good (days_in_year year) (right_at file number)) (sym (fault_7 number) ∙ any_miss (fault_at year prices file 7) (record_count file) number bad.0 inside),
        sym (fault_8 number) ∙ any_miss (fault_at year prices file 8) (record_count file) number unpriced.0 inside,
      )

  -- a file is accepted where its length is right and each of its records is good and has its prices
  pub clear_of_faults : is_outside year ≡ false → is_wrong_length (length file) ≡ false
      → ((number : ℕ) → number < record_count file
      → (is_good (days_in_year year) (right_at file number) ≡ true) × (is_unpriced prices (right_at file number) ≡ false))
      → file_refusal year prices file ≡ 0
  clear_of_faults within right fine =
      sym
      (file_0 within right
      (no_fault_to 7 (any_absent (fault_at year prices file 7) (record_count file) (λ k l. fault_7 k ∙ ap not (fine k l).0)))
      (no_fault_to 8 (any_absent (fault_at year prices file 8) (record_count file) (λ k l. fault_8 k ∙ (fine k l).1))))

  -- ---- the record number

  pub faulty_7 : faulty_record year prices file 7 ≡ lowest 7
  unfolding faulty_record
  faulty_7 = refl

  pub faulty_8 : faulty_record year prices file 8 ≡ lowest 8
  unfolding faulty_record
  faulty_8 = refl

  pub faulty_other : (refusal : ℕ) → (refusal ≡ 7 → ⊥) → (refusal ≡ 8 → ⊥) → faulty_record year prices file refusal ≡ 0
  unfolding faulty_record
  faulty_other refusal not_7 not_8 = rw (ne_eqb refusal 7 not_7, ne_eqb refusal 8 not_8)

  pub faulty_none : (refusal : ℕ) → refusal < 7 → faulty_record year prices file refusal ≡ 0
  faulty_none refusal below = faulty_other refusal (λ e. omega arith) (λ e. omega arith)

  -- it is no further than the file
  pub faulty_within : (refusal : ℕ) → faulty_record year prices file refusal ≤ record_count file
  unfolding faulty_record
  faulty_within refusal = by_fault (eqb refusal 7 || eqb refusal 8)
    where
      by_fault : (fault : Bool) → cond fault (lowest refusal) 0 ≤ record_count file
      by_fault true = lowest_within (fault_at year prices file refusal) (record_count file)
      by_fault false = omega arith

  -- where some record has the fault of 7 or 8, it is "the lowest one with that fault, all earlier records being free of it"
  pub first_faulty : (refusal : ℕ) → 7 ≤ refusal → refusal ≤ 8 → any_fault year prices file refusal ≡ true
      → IsLowest (fault_at year prices file refusal) (record_count file) (faulty_record year prices file refusal)
  unfolding any_fault
  first_faulty refusal low high some =
      subst (IsLowest (fault_at year prices file refusal) (record_count file)) (by_number (ℕ_discrete refusal 7))
      (lowest_found (fault_at year prices file refusal) (record_count file) some)
    where
      by_number : Dec (refusal ≡ 7) → lowest refusal ≡ faulty_record year prices file refusal
      by_number (yes is) = subst (λ (n : ℕ). lowest n ≡ faulty_record year prices file n) (sym is) (sym faulty_7)
      by_number (no other) = subst (λ (n : ℕ). lowest n ≡ faulty_record year prices file n) (omega arith) (sym faulty_8)

  -- and no other record is
  pub only_first : (refusal number : ℕ) → 7 ≤ refusal → refusal ≤ 8 → IsLowest (fault_at year prices file refusal) (record_count file) number
      → number ≡ faulty_record year prices file refusal
  only_first refusal number low high is =
      let some = any_fault_here refusal number is.inside is.here in
      lowest_only (fault_at year prices file refusal) (record_count file) number is
      ∙ sym (lowest_only (fault_at year prices file refusal) (record_count file) (faulty_record year prices file refusal) (first_faulty refusal low high some))

-- ---- what a call over the whole file answers

module _ (year prices : ℕ) (file : List ℕ) where
  abbrev file_answer : Result (Unit {0}) Refusal
  file_answer = answered (file_refusal year prices file) (faulty_record year prices file (file_refusal year prices file)) tt

  by_number : {number : ℕ} → number ≡ file_refusal year prices file → answered number (faulty_record year prices file number) tt ≡ file_answer
  by_number is = ap (λ (k : ℕ). answered k (faulty_record year prices file k) tt) is

  pub outside_answer : is_outside year ≡ true → Err NoSuchYear ≡ file_answer
  outside_answer outside = by_number (file_15 year prices file outside)

  pub wrong_answer : is_outside year ≡ false → is_wrong_length (length file) ≡ true → Err WrongLength ≡ file_answer
  wrong_answer within wrong = by_number (file_4 year prices file within wrong)

  module _ (within : is_outside year ≡ false) (right : is_wrong_length (length file) ≡ false) where
    pub bad_answer : (number : ℕ) → IsLowest (fault_at year prices file 7) (record_count file) number → Err (BadRight number) ≡ file_answer
    bad_answer number is =
        ap (λ (k : ℕ). Err (BadRight k)) (only_first year prices file 7 number (omega arith) (omega arith) is)
        ∙ by_number (file_7 year prices file within right (any_fault_here year prices file 7 number is.inside is.here))

    module _ (good : any_below (fault_at year prices file 7) (record_count file) ≡ false) where
      pub unpriced_answer : (number : ℕ) → IsLowest (fault_at year prices file 8) (record_count file) number
          → Err (UnpricedNode number) ≡ file_answer
      unpriced_answer number is =
          ap (λ (k : ℕ). Err (UnpricedNode k)) (only_first year prices file 8 number (omega arith) (omega arith) is)
          ∙ by_number
          (file_8 year prices file within right (no_fault_to year prices file 7 good) (any_fault_here year prices file 8 number is.inside is.here))

      pub clear_answer : any_below (fault_at year prices file 8) (record_count file) ≡ false → Ok tt ≡ file_answer
      clear_answer priced =
          by_number (file_0 year prices file within right (no_fault_to year prices file 7 good) (no_fault_to year prices file 8 priced))

-- "An empty file is good": it has the right length, and no record with a fault
pub empty_length : is_wrong_length 0 ≡ false
empty_length = refl

pub empty_faults : (year prices refusal : ℕ) → any_fault year prices [] refusal ≡ false
unfolding any_fault any_below
empty_faults year prices refusal = refl

pub empty_good : (year prices : ℕ) → is_outside year ≡ false → file_refusal year prices [] ≡ 0
empty_good year prices within =
    sym (file_0 year prices [] within empty_length (empty_faults year prices 7) (empty_faults year prices 8))
