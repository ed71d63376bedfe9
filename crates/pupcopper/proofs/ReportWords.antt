-- A report of the right number of words, and what then stands in it.
-- Assumes nothing.
use Prim.Native.Nat.{ℕ, ◌+◌, ◌≤◌}
use mathlib.Core.Path.{◌≡◌, refl, sym, ap, ◌∙◌}
use mathlib.Core.Bool.{Bool, true, false, cond}
use mathlib.Core.List.{List, [], ◌∷◌, ◌++◌, append-nil}
use native.Mathlib.Omega.{arith}
use lib.ListN.{length, drop, length-append, length-drop, drop_of_length-le}
use lib.Seq.{sets, sets-eq, take_at}
use borrow.Author.Tests.{eq-eqb, ne_eqb}
use Rattle.numbers.specs.Refusals.{answer_by, answered, answer_record, first_refusal}
use Rattle.numbers.proofs.Refusals.{refusal_none, refusal_here, refusal_next, number_answered, record_answered, value_answered}
use Rattle.std.specs.Prelude.{Result, Ok, Err, MatchResult}
use Rattle.std.specs.Result.{result_unwrap_or}
use Rattle.numbers.specs.declared.refusal.Refusal.{Refusal}
use Rattle.calendar.proofs.Hours.{calendar_number, refusal_no_year}
use Rattle.calendar.proofs.DayTable.{table_number, table_no_year_number}
use Rattle.calendar.specs.Almanac.{is_outside}
use Rattle.rights.proofs.Faults.{faulty_other}
use Rattle.rights.proofs.Readings.{read_number, read_no_year}
use Rattle.rights.proofs.Steps.{step_no_year}
use Rattle.split.proofs.Answers.{split_number, left_or_none}
use Rattle.target.proofs.Bounds.{call_number, call_no_year}
use Rattle.rights.specs.Faults.{faulty_record}
use Rattle.pupcopper.specs.Calls.{number_of, is_wrong_report, report_refusal, dated_refusal, outcome_words}

-- the words of what a call answers, or zeros, are those of what a host is promised
pub value_words : {A : Type 0} (report : A → List ℕ) (none : A) {outcome answer : Result A Refusal} {value : A} {words : List ℕ}
    → outcome ≡ answer → result_unwrap_or answer none ≡ value
    → MatchResult outcome (λ x. words ≡ report x) (λ _. words ≡ report none) → words ≡ report value
value_words report none {outcome} {answer} {value} {words} same is made =
    by_answer outcome made ∙ ap (λ (r : Result _ Refusal). report (result_unwrap_or r none)) same ∙ ap report is
  where
    by_answer : (outcome : Result _ Refusal) → MatchResult outcome (λ x. words ≡ report x) (λ _. words ≡ report none)
        → words ≡ report (result_unwrap_or outcome none)
    by_answer (Ok x) e = e
    by_answer (Err refusal) e = e

module _ (words report : ℕ) where
  pub report_fits : report ≡ words → is_wrong_report words report ≡ false
  report_fits is = rw (eq-eqb report words is)

  pub report_wrong : (report ≡ words → ⊥) → is_wrong_report words report ≡ true
  report_wrong other = rw (ne_eqb report words other)

  right_0 : report ≡ words → report_refusal words report ≡ 0
  unfolding report_refusal
  right_0 is = refusal_next 4 [] (report_fits is) ∙ refusal_none

  wrong_4 : (report ≡ words → ⊥) → report_refusal words report ≡ 4
  unfolding report_refusal
  wrong_4 other = refusal_here 4 [] (report_wrong other)

  -- the number of a call
  pub wrong_number : (called : ℕ) → (report ≡ words → ⊥) → 4 ≡ number_of (report_refusal words report) called
  wrong_number called other = sym (ap (λ (own : ℕ). number_of own called) (wrong_4 other))

  pub right_number : (called : ℕ) → report ≡ words → called ≡ number_of (report_refusal words report) called
  right_number called is = sym (ap (λ (own : ℕ). number_of own called) (right_0 is))

  -- what it writes
  pub wrong_kept : {A : Type 0} (given before : A) → (report ≡ words → ⊥) → before ≡ answer_by (report_refusal words report) given before
  wrong_kept given before other = sym (ap (λ (own : ℕ). answer_by own given before) (wrong_4 other))

  pub right_given : {A : Type 0} (given before : A) → report ≡ words → given ≡ answer_by (report_refusal words report) given before
  right_given given before is = sym (ap (λ (own : ℕ). answer_by own given before) (right_0 is))

-- of a call that is given a year: 15, then 4 for its report, then the library's, which gives 15 for such a year too
module _ (year words report : ℕ) where
  dated_wrong : (report ≡ words → ⊥) → dated_refusal year words report ≡ cond (is_outside year) 15 4
  unfolding dated_refusal first_refusal
  dated_wrong other = rw (report_wrong words report other)

  dated_right : report ≡ words → dated_refusal year words report ≡ cond (is_outside year) 15 0
  unfolding dated_refusal first_refusal
  dated_right is = rw (report_fits words report is)

  pub dated_wrong_number : (called : ℕ) {number : ℕ} → (report ≡ words → ⊥) → number ≡ cond (is_outside year) 15 4
      → number ≡ number_of (dated_refusal year words report) called
  dated_wrong_number called other is = is ∙ by_outside (is_outside year) ∙ sym (ap (λ (own : ℕ). number_of own called) (dated_wrong other))
    where
      by_outside : (outside : Bool) → cond outside 15 4 ≡ number_of (cond outside 15 4) called
      by_outside true = refl
      by_outside false = refl

  pub dated_right_number : (called : ℕ) → report ≡ words → (is_outside year ≡ true → called ≡ 15)
      → called ≡ number_of (dated_refusal year words report) called
  dated_right_number called is same = by_outside (is_outside year) same ∙ sym (ap (λ (own : ℕ). number_of own called) (dated_right is))
    where
      by_outside : (outside : Bool) → (outside ≡ true → called ≡ 15) → called ≡ number_of (cond outside 15 0) called
      by_outside true same = same refl
      by_outside false same = refl

-- words written one after another from a list's start: those, and what was behind them
pub written : {A : Type 0} (values before : List A) → length values ≤ length before
    → sets before 0 values ≡ values ++ drop (length values) before
written values before room =
    let same : 0 + length values ≡ length values = omega arith in
    sets-eq values before 0 (omega arith) ∙ ap (λ (n : ℕ). values ++ drop n before) same

-- with nothing behind them
pub nothing_behind : {A : Type 0} (values before : List A) → length before ≡ length values
    → values ++ drop (length values) before ≡ values
nothing_behind values before all =
    ap (λ (rest : List _). values ++ rest) (drop_of_length-le before {i = length values} (omega arith)) ∙ append-nil values

pub written_all : {A : Type 0} (values before : List A) → length before ≡ length values → sets before 0 values ≡ values
written_all values before all = written values before (omega arith) ∙ nothing_behind values before all

-- words written behind others, to the end
pub written_behind : {A : Type 0} (front values before : List A) → length before ≡ length front + length values
    → sets (front ++ drop (length front) before) (length front) values ≡ front ++ values
written_behind front values before all =
    let whole = front ++ drop (length front) before in
    let long : length whole ≡ length front + length values =
    length-append front (drop (length front) before) ∙ ap (λ (n : ℕ). length front + n) (length-drop (length front) before) ∙ omega arith in
    sets-eq values whole (length front) (omega (arith, long))
    ∙ ap (λ (start : List _). start ++ values ++ drop (length front + length values) whole) (take_at front (drop (length front) before) (length front) refl)
    ∙ ap (λ (rest : List _). front ++ values ++ rest) (drop_of_length-le whole {i = length front + length values} (omega (arith, long)))
    ∙ append-nil (front ++ values)

-- a report of one word
pub word_reported : (report : List ℕ) (word : ℕ) → length report ≡ 1
    → sets report 0 (word ∷ []) ≡ answer_by (report_refusal 1 (length report)) (word ∷ []) report
word_reported report word fits = written_all (word ∷ []) report fits ∙ right_given 1 (length report) _ _ fits

-- that of a target call and of a row call: the record that the outcome names
pub outcome_reported : (year prices : ℕ) (file report : List ℕ) (refusal names : ℕ) → length report ≡ outcome_words
    → names ≡ answer_record {A = Unit {0}} (answered refusal (faulty_record year prices file refusal) tt)
    → sets report 0 (names ∷ []) ≡ answer_by (report_refusal outcome_words (length report)) (faulty_record year prices file refusal ∷ []) report
outcome_reported year prices file report refusal names fits named =
    let faulty = named ∙ record_answered refusal _ tt (faulty_other year prices file refusal) in
    ap (λ (word : ℕ). sets report 0 (word ∷ [])) faulty ∙ word_reported report (faulty_record year prices file refusal) fits

-- a call handed on: its number and what it writes, by the length of its report
pub ruleset handed_on = (wrong_number, wrong_kept, right_number, right_given, dated_wrong_number, dated_right_number, number_answered, word_reported, outcome_reported, calendar_number, refusal_no_year, table_number, table_no_year_number, value_answered, read_number, read_no_year, step_no_year, call_number, call_no_year, split_number, left_or_none)
