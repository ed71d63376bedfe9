-- Writing a record: what a write answers and leaves, and what is read afterwards.
-- Assumes nothing.
use Prim.Native.Nat.{ℕ, zero, suc, ◌+◌, ◌-◌, ◌*◌, ◌/◌, ◌≤◌, ◌<◌}
use mathlib.Core.Path.{◌≡◌, refl, sym, ap, subst, ◌∙◌}
use mathlib.Core.Bool.{Bool, true, false, cond, not, ◌||◌, false≢true}
use mathlib.Core.List.{List, [], ◌∷◌}
use native.Mathlib.Nat.{zero-add}
use native.Mathlib.Decide.{ℕ_discrete}
use native.Mathlib.Omega.{arith}
use lib.Dec.{eqb, leb, ltb}
use lib.ListN.{get_or, length}
use borrow.Author.Tests.{leb-true, leb-false, ltb-true, ltb-false, not-false}
use Rattle.std.specs.Prelude.{Some, None, Ok}
use Rattle.numbers.specs.Lists.{written}
use Rattle.numbers.specs.Refusals.{answer_by, answered, first_refusal, ◌if◌}
use Rattle.numbers.specs.Words.{AreBytes}
use Rattle.numbers.proofs.Booleans.{neither_true}
use Rattle.numbers.proofs.Refusals.{refusal_clear}
use Rattle.numbers.proofs.Written.{before_part, in_part, behind_part, written_length, written_same}
use Rattle.calendar.specs.Almanac.{is_outside, days_in_year}
use Rattle.calendar.proofs.AlmanacLaws.{days_most}
use Rattle.rights.specs.declared.Right.{Right}
use Rattle.rights.specs.Layout.{Reading, record_bytes, record_count, right_at, laid_out, is_good, is_wrong_length, record_refusal, reading}
use Rattle.rights.specs.RecordWords.{InWidths}
use Rattle.rights.specs.Faults.{is_unpriced, file_refusal}
use Rattle.rights.specs.Reader.{Given, says_none, IsReading, IsWholeReading}
use Rattle.rights.specs.Writing.{file_after, WrittenAndRead, IsReadAndWritten, ReadAndWritten, OthersReadAsBefore, StaysClear, IsReadingAfter, ReaderAfter}
use Rattle.rights.proofs.Faults.{clear_of_faults, clear_record}
use Rattle.rights.proofs.Good.{good_widths}
use Rattle.rights.proofs.Readings.{read_by, read_good, read_bad, reads_alike}
use Rattle.rights.proofs.RecordCalls.{record_15, record_wrong, record_past, record_7, record_0}
use Rattle.rights.proofs.RecordWords.{laid_out_as_given, laid_out_as_read, laid_out_length, right_agree}
use Rattle.rights.proofs.Steps.{same_given}
use Rattle.rights.proofs.WholeReading.{whole_reading}

-- what a write answers and leaves, by its refusal number
module _ (year : ℕ) (file : List ℕ) (number : ℕ) (right : Right) {k : ℕ} (e : record_refusal year file number right ≡ k) where
  pub write_answer : answered {A = Unit {0}} k number tt ≡ answered {A = Unit {0}} (record_refusal year file number right) number tt
  write_answer = sym (ap (λ (k : ℕ). answered {A = Unit {0}} k number tt) e)

  pub write_leaves : answer_by k (written file (number * record_bytes) (laid_out right)) file ≡ file_after year file number right
  unfolding file_after
  write_leaves = sym (ap (λ (k : ℕ). answer_by k (written file (number * record_bytes) (laid_out right)) file) e)

-- what the tests of an accepted call are
record Passed (year : ℕ) (file : List ℕ) (number : ℕ) (right : Right) : Type 0 where
  within : is_outside year ≡ false
  long : is_wrong_length (length file) ≡ false
  inside : number < record_count file
  good : is_good (days_in_year year) right ≡ true

passed : (year : ℕ) (file : List ℕ) (number : ℕ) (right : Right) → record_refusal year file number right ≡ 0 → Passed year file number right
unfolding record_refusal
passed year file number right accepted =
    let of_year = refusal_clear 15 (is_outside year) _ (omega arith) accepted in
    let of_place = refusal_clear 4 (is_wrong_length (length file) || leb (record_count file) number) _ (omega arith) of_year.1 in
    let of_right = refusal_clear 7 (not (is_good (days_in_year year) right)) [] (omega arith) of_place.1 in
    let both = neither_true (is_wrong_length (length file)) (leb (record_count file) number) of_place.0 in
    record {
      within = of_year.0;
      long = both.0;
      inside = leb-false (record_count file) number both.1;
      good = not-false (is_good (days_in_year year) right) of_right.0;
    }

-- two rights that are one where either is good are written alike
module _ (year : ℕ) (file : List ℕ) (number : ℕ) (one two : Right) (same : is_good (days_in_year year) one ≡ is_good (days_in_year year) two) where
  pub refused_alike : record_refusal year file number one ≡ record_refusal year file number two
  unfolding record_refusal
  refused_alike =
      ap
      (λ (good : Bool). first_refusal
      ((15 if is_outside year)
      ∷ (4 if is_wrong_length (length file) || leb (record_count file) number)
      ∷ (7 if not good)
      ∷ []))
      same

  pub left_alike : (is_good (days_in_year year) two ≡ true → one ≡ two) → file_after year file number one ≡ file_after year file number two
  left_alike is = by_refusal (record_refusal year file number two) refl
    where
      by_refusal : (k : ℕ) → record_refusal year file number two ≡ k → file_after year file number one ≡ file_after year file number two
      by_refusal zero e = ap (file_after year file number) (is (passed year file number two e).good)
      by_refusal (suc k) e = sym (write_leaves year file number one (refused_alike ∙ e)) ∙ write_leaves year file number two e

-- ---- the place of a record among the bytes

module _ (file : List ℕ) (number : ℕ) (right : Right) (inside : number < record_count file) where
  abbrev at : ℕ
  at = number * record_bytes

  abbrev after : List ℕ
  after = written file at (laid_out right)

  within : at ≤ length file
  within = omega arith

  long : length (laid_out right) ≡ record_bytes
  long = laid_out_length right

  written_long : length after ≡ length file
  written_long = written_length file at (laid_out right) (omega (arith, long))

  -- the record written is the right
  byte_here : (i : ℕ) → i < record_bytes → get_or after (at + i) 0 ≡ get_or (laid_out right) i 0
  byte_here i below = in_part file at (laid_out right) within i (omega (arith, long))

  right_here : InWidths right → right_at after number ≡ right
  right_here in_widths =
      right_agree after (laid_out right) at 0 (λ i below. byte_here i below ∙ ap (λ (p : ℕ). get_or (laid_out right) p 0) (sym (zero-add i)))
      ∙ laid_out_as_given right in_widths

  -- every other one is as it was
  byte_other : (place : ℕ) (ahead : Bool) → ltb place at ≡ ahead → (at ≤ place → at + record_bytes ≤ place) → get_or after place 0 ≡ get_or file place 0
  byte_other place true ahead _ = before_part file at (laid_out right) within place (ltb-true place at ahead)
  byte_other place false not_ahead behind =
      let past : at + record_bytes ≤ place = behind (ltb-false place at not_ahead) in
      let here : at + length (laid_out right) + (place - (at + record_bytes)) ≡ place = omega (arith, long, past) in
      ap (λ (p : ℕ). get_or after p 0) (sym here)
      ∙ behind_part file at (laid_out right) within (place - (at + record_bytes))
      ∙ ap (λ (p : ℕ). get_or file p 0) here

  right_other : (other : ℕ) → (other ≡ number → ⊥) → right_at after other ≡ right_at file other
  right_other other apart = right_agree after file (other * record_bytes) (other * record_bytes) (λ i below. byte i below (ltb number other) refl)
    where
      byte : (i : ℕ) → i < record_bytes → (behind : Bool) → ltb number other ≡ behind
          → get_or after (other * record_bytes + i) 0 ≡ get_or file (other * record_bytes + i) 0
      byte i below true e =
          let past : number < other = ltb-true number other e in
          byte_other (other * record_bytes + i) _ refl (λ _. omega (arith, past))
      byte i below false e =
          let up_to : other ≤ number = ltb-false number other e in
          byte_other (other * record_bytes + i) _ refl (λ from. absurd (apart (omega (arith, up_to, from, below))))

-- ---- what is read afterwards

pub written_and_read : WrittenAndRead
written_and_read year file number right accepted =
    let p = passed year file number right accepted in
    let is = right_here file number right p.inside (good_widths (days_in_year year) right p.good (days_most year)) in
    let long = written_long file number right p.inside in
    ap (λ (f : List ℕ). reading year f number) (sym (write_leaves year file number right accepted))
    ∙ read_good year _ number p.within (ap is_wrong_length long ∙ p.long) (omega (arith, long, p.inside)) (ap (is_good (days_in_year year)) is ∙ p.good)
    ∙ ap (λ (r : Right). record { refusal = 0; right = r }) is

-- what a read gives, written where it was read
module _ (year : ℕ) (file : List ℕ) (number : ℕ) (are : AreBytes file) where
  -- from what the read gives
  made : {read : Reading} → reading year file number ≡ read → record_refusal year file number read.right ≡ read.refusal
      → answer_by read.refusal (written file (number * record_bytes) (laid_out read.right)) file ≡ file → IsReadAndWritten year file number
  made {read} is refusal left =
      record {
        refusal = subst (λ (r : Reading). record_refusal year file number r.right ≡ r.refusal) (sym is) refusal;
        same = subst (λ (r : Reading). file_after year file number r.right ≡ file) (sym is) (sym (write_leaves year file number read.right refusal) ∙ left);
      }

  -- the bytes of its own fields, written over a record
  own_bytes : number < record_count file → written file (number * record_bytes) (laid_out (right_at file number)) ≡ file
  own_bytes inside =
      ap (written file (number * record_bytes)) (laid_out_as_read file (number * record_bytes) are)
      ∙ written_same file (number * record_bytes) record_bytes (omega arith)

  by_tests : (outside wrong past good : Bool) → is_outside year ≡ outside → is_wrong_length (length file) ≡ wrong
      → leb (record_count file) number ≡ past → is_good (days_in_year year) (right_at file number) ≡ good → IsReadAndWritten year file number
  by_tests true _ _ _ o _ _ _ = made (read_by year file number (record_15 year file number _ o)) (record_15 year file number _ o) refl
  by_tests false true _ _ o w _ _ = made (read_by year file number (record_wrong year file number _ o w)) (record_wrong year file number _ o w) refl
  by_tests false false true _ o w p _ =
      let far : record_count file ≤ number = leb-true _ _ p in
      made (read_by year file number (record_past year file number _ o w far)) (record_past year file number _ o w far) refl
  by_tests false false false true o w p g =
      let inside : number < record_count file = leb-false _ _ p in
      made (read_good year file number o w inside g) (record_0 year file number _ o w inside g) (own_bytes inside)
  by_tests false false false false o w p g =
      let inside : number < record_count file = leb-false _ _ p in
      made (read_bad year file number o w inside g) (record_7 year file number _ o w inside refl) refl

pub read_and_written : ReadAndWritten
read_and_written year file number are = by_tests year file number are _ _ _ _ refl refl refl refl

pub others_read_as_before : OthersReadAsBefore
others_read_as_before year file number right inyear other apart = by_refusal (record_refusal year file number right) refl
  where
    by_refusal : (k : ℕ) → record_refusal year file number right ≡ k → reading inyear (file_after year file number right) other ≡ reading inyear file other
    by_refusal zero e =
        let inside = (passed year file number right e).inside in
        ap (λ (f : List ℕ). reading inyear f other) (sym (write_leaves year file number right e))
        ∙ reads_alike inyear _ file other (written_long file number right inside) (right_other file number right inside other apart)
    by_refusal (suc k) e = ap (λ (f : List ℕ). reading inyear f other) (sym (write_leaves year file number right e))

pub stays_clear : StaysClear
stays_clear year prices file number right clear accepted priced =
    ap (file_refusal year prices) (sym (write_leaves year file number right accepted))
    ∙ clear_of_faults year prices _ p.within (ap is_wrong_length long ∙ p.long) (λ k inside. by_place k (omega (arith, inside, long)) (ℕ_discrete k number))
  where
    p : Passed year file number right
    p = passed year file number right accepted

    long : length (written file (number * record_bytes) (laid_out right)) ≡ length file
    long = written_long file number right p.inside

    Fine : Right → Type 0
    Fine r = (is_good (days_in_year year) r ≡ true) × (is_unpriced prices r ≡ false)

    by_place : (k : ℕ) → k < record_count file → Dec (k ≡ number) → Fine (right_at (written file (number * record_bytes) (laid_out right)) k)
    by_place k inside (yes is) =
        subst Fine (sym (ap (right_at (written file (number * record_bytes) (laid_out right))) is ∙ right_here file number right p.inside (good_widths (days_in_year year) right p.good (days_most year))))
        (p.good, priced)
    by_place k inside (no apart) =
        subst Fine (sym (right_other file number right p.inside k apart)) (clear_record year prices file clear k inside)

-- the reader over the file written to
module _ (year : ℕ) (file : List ℕ) (number : ℕ) (right : Right) (accepted : record_refusal year file number right ≡ 0) where
  abbrev left : List ℕ
  left = file_after year file number right

  long_left : length left ≡ length file
  long_left =
      ap length (sym (write_leaves year file number right accepted))
      ∙ written_long file number right (passed year file number right accepted).inside

  counts : record_count left ≡ record_count file
  counts = ap (λ (l : ℕ). l / record_bytes) long_left

  long_after : is_wrong_length (length left) ≡ false
  long_after = ap is_wrong_length long_left ∙ (passed year file number right accepted).long

  no_record : (given : Given) → says_none given ≡ true → given ≡ None
  no_record (Some given) e = absurd (false≢true e)
  no_record None e = refl

  module _ (before after : ℕ → Given) (next then : ℕ → ℕ) (run : IsReading year file before next) (run_after : IsReading year left after then) where
    whole : IsWholeReading year file before
    whole = whole_reading year file before next run (passed year file number right accepted).within (passed year file number right accepted).long

    whole_after : IsWholeReading year left after
    whole_after = whole_reading year left after then run_after (passed year file number right accepted).within long_after

    other_step : (step : ℕ) → (step ≡ number → ⊥) → (past : Bool) → leb (record_count file) step ≡ past → after step ≡ before step
    other_step step apart true e =
        let past : record_count file ≤ step = leb-true _ _ e in
        no_record (after step) (whole_after.finished step (omega (arith, past, counts))) ∙ sym (no_record (before step) (whole.finished step past))
    other_step step apart false e =
        let inside : step < record_count file = leb-false _ _ e in
        let inside_after : step < record_count left = omega (arith, inside, counts) in
        let same = others_read_as_before year file number right year step apart in
        same_given (after step) (before step)
        (whole_after.number step inside_after ∙ ap (λ (r : Reading). r.refusal) same ∙ sym (whole.number step inside))
        (whole_after.right step inside_after ∙ ap (λ (r : Reading). r.right) same ∙ sym (whole.right step inside))
        (whole_after.faulty step inside_after ∙ ap (λ (r : Reading). cond (eqb r.refusal 7) step 0) same ∙ sym (whole.faulty step inside))
        (whole_after.gives step inside_after ∙ sym (whole.gives step inside))

    reading_after : IsReadingAfter before after number right
    reading_after =
        let inside_after : number < record_count left = omega (arith, counts, (passed year file number right accepted).inside) in
        let is = written_and_read year file number right accepted in
        record {
          here =
              same_given (after number) (Some (Ok right))
              (whole_after.number number inside_after ∙ ap (λ (r : Reading). r.refusal) is)
              (whole_after.right number inside_after ∙ ap (λ (r : Reading). r.right) is)
              (whole_after.faulty number inside_after ∙ ap (λ (r : Reading). cond (eqb r.refusal 7) number 0) is)
              (whole_after.gives number inside_after);
          others = λ step apart. other_step step apart _ refl;
        }

pub reader_after : ReaderAfter
reader_after year file number right before after next then accepted run run_after =
    reading_after year file number right accepted before after next then run run_after
