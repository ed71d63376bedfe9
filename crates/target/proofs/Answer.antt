-- The refusal of a target call and of a row call, from its first rows to the faults of the rights; and a target call's lines.
-- Assumes nothing.
use Prim.Native.Nat.{ℕ, zero, suc, ◌<◌, ◌≤◌}
use mathlib.Core.Path.{◌≡◌, refl, sym, ap, ◌∙◌}
use mathlib.Core.Bool.{Bool, true, false, cond, ◌||◌, false≢true}
use mathlib.Core.List.{List, [], ◌++◌}
use native.Mathlib.Decide.{ℕ_discrete}
use native.Mathlib.Omega.{arith}
use lib.Dec.{leb}
use lib.ListN.{length, get_or}
use lib.IntN.{ℤ, pos}
use borrow.Author.Tests.{lt-leb, leb-true, leb-false, eq-eqb}
use Rattle.std.specs.Prelude.{Some, None, Ok, Err}
use Rattle.numbers.specs.Limits.{owners}
use Rattle.numbers.specs.Lists.{IsLowest, list_below}
use Rattle.numbers.specs.declared.refusal.Refusal.{Refusal}
use Rattle.numbers.specs.Refusals.{first_refusal, answer_by, answered}
use Rattle.numbers.proofs.Refusals.{is_within, refusal_none, refusal_here, refusal_next, refusal_clear, refusal_append, refusal_rest, refusal_never, answer_accepted, answer_refused}
use Rattle.numbers.proofs.Counts.{get_or_list_below, length_list_below}
use Rattle.numbers.proofs.Booleans.{neither_true}
use Rattle.numbers.proofs.Signed.{sum_none}
use Rattle.calendar.specs.declared.OperatingHour.{OperatingHour}
use Rattle.calendar.specs.Almanac.{is_outside}
use Rattle.calendar.specs.Year.{hours_in_year, calendar_refusal, operating_hour}
use Rattle.calendar.proofs.Hours.{refusal_inside, refusal_outside, refusal_no_year}
use Rattle.rights.specs.Layout.{record_count, is_wrong_length}
use Rattle.rights.specs.Faults.{fault_at, fault_rows, file_refusal, faulty_record}
use Rattle.rights.proofs.Faults.{file_rows, fault_from_rows, first_faulty, faulty_other}
use Rattle.target.specs.Target.{is_wrong_price_count, any_wild, lent_rows, early_rows, row_at, call_refusal, call_answer, target_refusal, own_sum, target, targets, target_lines}
use Rattle.target.specs.InnerContracts.{added}
use Rattle.numbers.proofs.Refusals.{answered_ok}
use Rattle.target.proofs.Answered.{answered_refusal}

module _ (file : List ℕ) (prices : List ℤ) where
  -- 4 and 5 alone come from the lengths and the prices
  pub lent_within : is_within 4 5 (lent_rows file prices) ≡ true
  unfolding lent_rows
  lent_within = refl

  pub lent_accepted : is_wrong_price_count (length prices) ≡ false → is_wrong_length (length file) ≡ false → any_wild prices ≡ false
      → first_refusal (lent_rows file prices) ≡ 0
  unfolding lent_rows
  lent_accepted priced right calm = refusal_next 4 _ priced ∙ refusal_next 4 _ right ∙ refusal_next 5 _ calm ∙ refusal_none

  -- none comes: the file's length is right and no price is wild, and then the records decide
  lent_clear : first_refusal (lent_rows file prices) ≡ 0 → (is_wrong_length (length file) ≡ false) × (any_wild prices ≡ false)
  unfolding lent_rows
  lent_clear clear =
      let prices_4 = refusal_clear 4 _ _ (omega arith) clear in
      let file_4 = refusal_clear 4 (is_wrong_length (length file)) _ (omega arith) prices_4.1 in
      (file_4.0, (refusal_clear 5 (any_wild prices) [] (omega arith) file_4.1).0)

-- an hour that the calendar gives is in the year, which is one of its own
pub in_year : (year hour : ℕ) (given : OperatingHour) → answered (calendar_refusal year hour) 0 (operating_hour year hour) ≡ Ok given
    → (is_outside year ≡ false) × (hour < hours_in_year year)
in_year year hour given is = by_tests (is_outside year) (leb (hours_in_year year) hour) refl refl
  where
    none : calendar_refusal year hour ≡ 0
    none = (answered_ok _ _ _ is).0

    by_tests : (outside late : Bool) → is_outside year ≡ outside → leb (hours_in_year year) hour ≡ late
        → (is_outside year ≡ false) × (hour < hours_in_year year)
    by_tests false false within early = (within, leb-false (hours_in_year year) hour early)
    by_tests false true within late =
        absurd (omega (arith, none, refusal_outside year hour within (leb-true (hours_in_year year) hour late)))
    by_tests true late outside _ = absurd (omega (arith, none, refusal_no_year year hour outside))

-- in an hour of a year of the calendar and with 64 lines, what else is lent decides a target call
pub lent_rows_lem : (year : ℕ) (file : List ℕ) (prices : List ℤ) (hour lines : ℕ) → is_outside year ≡ false → hour < hours_in_year year
    → lines ≡ owners
    → target_refusal year file prices hour lines ≡ first_refusal (lent_rows file prices ++ fault_rows year (length prices) file)
unfolding call_refusal early_rows
lent_rows_lem year file prices hour lines within inside all =
    refusal_next 15 _ within
    ∙ refusal_next 3 _ (lt-leb (hours_in_year year) hour inside)
    ∙ refusal_next 4 _ (rw (eq-eqb lines owners all))

-- what a pass gives, by whether some record has a fault
given_some : (refusal : ℕ) (sums given : List ℤ) → answer_by refusal (Some sums) None ≡ Some given → (refusal ≡ 0) × (given ≡ sums)
given_some zero sums given is = (refl, cc)
given_some (suc n) sums given is = cc

given_none : (refusal : ℕ) (sums : List ℤ) → answer_by refusal (Some sums) None ≡ None → refusal ≡ 0 → ⊥
given_none zero sums is none = cc
given_none (suc n) sums is none = cc

module _ (year : ℕ) (file : List ℕ) (prices : List ℤ) (hour : ℕ) (wrong : Bool) where
  -- what comes before the records is from 3 to 15
  early_within : is_within 3 15 (early_rows year file prices hour wrong) ≡ true
  unfolding early_rows lent_rows
  early_within = refl

  -- but neither 7 nor 8, which name a record
  early_not_7 : first_refusal (early_rows year file prices hour wrong) ≡ 7 → ⊥
  unfolding early_rows lent_rows
  early_not_7 = refusal_never 7 _ (omega arith) refl

  early_not_8 : first_refusal (early_rows year file prices hour wrong) ≡ 8 → ⊥
  unfolding early_rows lent_rows
  early_not_8 = refusal_never 8 _ (omega arith) refl

  -- a length is wrong, a price is wild, or none
  abbrev any_length : Bool
  any_length = (wrong || is_wrong_price_count (length prices)) || is_wrong_length (length file)

  module _ (inside : (is_outside year ≡ false) × (hour < hours_in_year year)) where
    pub early_length : any_length ≡ true → first_refusal (early_rows year file prices hour wrong) ≡ 4
    unfolding early_rows lent_rows first_refusal
    early_length is =
        rw (inside.0, lt-leb (hours_in_year year) hour inside.1)
        (by_tests wrong (is_wrong_price_count (length prices)) (is_wrong_length (length file)) is)
      where
        by_tests : (lines priced right : Bool) → ((lines || priced) || right) ≡ true
            → cond {A = ℕ} lines 4 (cond priced 4 (cond right 4 (cond (any_wild prices) 5 0))) ≡ 4
        by_tests true priced right _ = refl
        by_tests false true right _ = refl
        by_tests false false true _ = refl
        by_tests false false false none = absurd (false≢true none)

    early_lent : any_length ≡ false → first_refusal (early_rows year file prices hour wrong) ≡ cond (any_wild prices) 5 0
    unfolding early_rows lent_rows first_refusal
    early_lent none =
        let first_two = neither_true (wrong || is_wrong_price_count (length prices)) (is_wrong_length (length file)) none in
        let each = neither_true wrong (is_wrong_price_count (length prices)) first_two.0 in
        rw (inside.0, lt-leb (hours_in_year year) hour inside.1, each.0, each.1, first_two.1)

    pub early_wild : any_length ≡ false → any_wild prices ≡ true → first_refusal (early_rows year file prices hour wrong) ≡ 5
    early_wild none wild = early_lent none ∙ rw wild

    pub early_none : any_length ≡ false → any_wild prices ≡ false → first_refusal (early_rows year file prices hour wrong) ≡ 0
    early_none none tame = early_lent none ∙ rw tame

  -- the calendar answers by the first two rows alone
  pub early_hour : (refusal : Refusal) → answered (calendar_refusal year hour) 0 (operating_hour year hour) ≡ Err refusal
      → Err refusal ≡ answered (first_refusal (early_rows year file prices hour wrong)) 0 (operating_hour year hour)
  unfolding early_rows
  early_hour refusal is = by_tests (is_outside year) (leb (hours_in_year year) hour) refl refl
    where
      by_number : {number : ℕ} → calendar_refusal year hour ≡ number → first_refusal (early_rows year file prices hour wrong) ≡ number
          → Err refusal ≡ answered (first_refusal (early_rows year file prices hour wrong)) 0 (operating_hour year hour)
      by_number calls comes = sym is ∙ ap (λ (k : ℕ). answered k 0 (operating_hour year hour)) (calls ∙ sym comes)

      by_tests : (outside late : Bool) → is_outside year ≡ outside → leb (hours_in_year year) hour ≡ late
          → Err refusal ≡ answered (first_refusal (early_rows year file prices hour wrong)) 0 (operating_hour year hour)
      by_tests true late outside _ = by_number (refusal_no_year year hour outside) (refusal_here 15 _ outside)
      by_tests false true within late =
          by_number (refusal_outside year hour within (leb-true (hours_in_year year) hour late))
          (refusal_next 15 _ within ∙ refusal_here 3 _ late)
      by_tests false false within early =
          let none = refusal_inside year hour within (leb-false (hours_in_year year) hour early) in
          absurd ((answered_refusal _ 0 (operating_hour year hour) (operating_hour year hour) refusal is).0 none)

  -- none comes: the year is the calendar's, the hour is in it, the number of lines is right, and so is what else is lent
  pub early_clear : first_refusal (early_rows year file prices hour wrong) ≡ 0
      → (is_outside year ≡ false)
      × (hour < hours_in_year year)
      × (wrong ≡ false)
      × (is_wrong_length (length file) ≡ false)
      × (any_wild prices ≡ false)
  unfolding early_rows
  early_clear clear =
      let year_15 = refusal_clear 15 (is_outside year) _ (omega arith) clear in
      let hour_3 = refusal_clear 3 (leb (hours_in_year year) hour) _ (omega arith) year_15.1 in
      let lines_4 = refusal_clear 4 wrong _ (omega arith) hour_3.1 in
      let lent = lent_clear file prices lines_4.1 in
      (year_15.0, leb-false (hours_in_year year) hour hour_3.0, lines_4.0, lent.0, lent.1)

  -- a refusal before the records is the call's: it names no record
  pub refused_early : {A : Type 0} (value : A) (refusal : Refusal)
      → answered (first_refusal (early_rows year file prices hour wrong)) 0 value ≡ Err refusal
      → (call_refusal year file prices hour wrong ≡ 0 → ⊥)
      × (Err refusal ≡ call_answer year file prices (call_refusal year file prices hour wrong))
  unfolding call_refusal
  refused_early value refusal is = (
    λ none. refused.0 (called ∙ none),
    refused.1 ∙ ap (λ (record_number : ℕ). answered first record_number tt) (sym none_named) ∙ ap (call_answer year file prices) called,
  )
    where
      first : ℕ
      first = first_refusal (early_rows year file prices hour wrong)

      refused : (first ≡ 0 → ⊥) × (Err refusal ≡ answered first 0 (tt {0}))
      refused = answered_refusal first 0 value (tt {0}) refusal is

      called : first ≡ call_refusal year file prices hour wrong
      called = sym (refusal_append (early_rows year file prices hour wrong) _ refused.0)

      none_named : faulty_record year (length prices) file first ≡ 0
      none_named = faulty_other year (length prices) file first early_not_7 early_not_8

  module _ (clear : first_refusal (early_rows year file prices hour wrong) ≡ 0) where
    from_faults : call_refusal year file prices hour wrong ≡ first_refusal (fault_rows year (length prices) file)
    unfolding call_refusal
    from_faults =
        refusal_rest 3 15 (early_rows year file prices hour wrong) (fault_rows year (length prices) file) (omega arith) early_within clear

    -- the file decides
    pub from_file : file_refusal year (length prices) file ≡ call_refusal year file prices hour wrong
    from_file = let early = early_clear clear in file_rows year (length prices) file early.0 early.3 ∙ sym from_faults

    -- a pass that meets a fault ends in a refusal, and a clean one does not
    pub faulty : (at : OperatingHour) → added year file prices at ≡ None → call_refusal year file prices hour wrong ≡ 0 → ⊥
    faulty at pass none = given_none _ _ pass (from_file ∙ none)

    pub clean : (at : OperatingHour) (sums : List ℤ) → added year file prices at ≡ Some sums → call_refusal year file prices hour wrong ≡ 0
    clean at sums pass = sym from_file ∙ (given_some _ _ sums pass).0

  -- a call refused with 7 or 8 names "the lowest one with that fault, all earlier records being free of it"
  pub names_first : (k : ℕ) → 7 ≤ k → k ≤ 8 → call_refusal year file prices hour wrong ≡ k
      → IsLowest (fault_at year (length prices) file k) (record_count file) (faulty_record year (length prices) file k)
  unfolding call_refusal
  names_first k low high is =
      first_faulty year (length prices) file k low high
      (fault_from_rows year (length prices) file k (λ e. omega arith)
      (by_rows (ℕ_discrete (first_refusal (early_rows year file prices hour wrong)) 0)))
    where
      by_rows : Dec (first_refusal (early_rows year file prices hour wrong) ≡ 0) → first_refusal (fault_rows year (length prices) file) ≡ k
      by_rows (yes clear) = sym (from_faults clear) ∙ is
      by_rows (no some) = absurd (by_number (ℕ_discrete k 7))
        where
          early : first_refusal (early_rows year file prices hour wrong) ≡ k
          early = sym (refusal_append (early_rows year file prices hour wrong) (fault_rows year (length prices) file) some) ∙ is

          by_number : Dec (k ≡ 7) → ⊥
          by_number (yes seven) = early_not_7 (early ∙ seven)
          by_number (no other) = early_not_8 (early ∙ omega arith)

-- a refused call leaves the lines as they were
pub keeps_lines : (year : ℕ) (file : List ℕ) (prices : List ℤ) (hour : ℕ) (before : List ℤ)
    → (target_refusal year file prices hour (length before) ≡ 0 → ⊥) → target_lines year file prices hour before ≡ before
unfolding target_lines
keeps_lines year file prices hour before some = answer_refused _ (targets year file prices hour) before some

-- the lines after an accepted call are the targets, and a line is its owner's target
pub writes_targets : (year : ℕ) (file : List ℕ) (prices : List ℤ) (hour : ℕ) (before : List ℤ) → target_refusal year file prices hour (length before) ≡ 0
    → target_lines year file prices hour before ≡ targets year file prices hour
unfolding target_lines
writes_targets year file prices hour before clear = answer_accepted _ (targets year file prices hour) before clear

pub target_at : (year : ℕ) (file : List ℕ) (prices : List ℤ) (hour owner : ℕ) → owner < owners
    → get_or (targets year file prices hour) owner (pos 0) ≡ target year file prices hour owner
unfolding targets
target_at year file prices hour owner inside = get_or_list_below (target year file prices hour) owners (pos 0) owner inside

-- with no rights every target is 0
pub no_rights : (year : ℕ) (prices : List ℤ) (hour owner : ℕ) → target year [] prices hour owner ≡ pos 0
unfolding target own_sum
no_rights year prices hour owner = sum_none _

-- there are as many targets as owners
pub targets_long : (year : ℕ) (file : List ℕ) (prices : List ℤ) (hour : ℕ) → length (targets year file prices hour) ≡ owners
unfolding targets
targets_long year file prices hour = length_list_below (target year file prices hour) owners

-- the sums of a pass that meets no fault are the targets
pub pass_targets : (year : ℕ) (file : List ℕ) (prices : List ℤ) (hour : ℕ) (at : OperatingHour) (sums : List ℤ)
    → added year file prices at ≡ Some sums → at ≡ operating_hour year hour → sums ≡ targets year file prices hour
unfolding targets target
pass_targets year file prices hour at sums pass is =
    (given_some _ _ sums pass).1 ∙ ap (λ (h : OperatingHour). list_below (λ owner. own_sum file owner (row_at file prices h)) owners) is
