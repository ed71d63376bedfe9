-- The record at which the loop stops is the first bad one; after it, the one that is kept is the first without a price.
use Rattle.std.proofs.Common.{◌≡◌, ℕ, Bool, false, List, not, Option, sym, ap, ap₂, subst, ◌∙◌, arith}
use Rattle.numbers.specs.Lists.{any_below}
use Rattle.numbers.proofs.Any.{any_none, any_more}
use Rattle.numbers.proofs.Lowest.{FirstSoFar, first_next}
use Rattle.calendar.specs.Almanac.{days_in_year}
use Rattle.rights.specs.declared.Right.{Right}
use Rattle.rights.specs.Layout.{record_count, right_at, is_good}
use Rattle.rights.specs.Faults.{fault_at, is_unpriced}
use Rattle.rights.proofs.Faults.{fault_7, fault_8, outside_answer, wrong_answer, bad_answer, unpriced_answer, clear_answer}
use Rattle.rights.proofs.RecordWords.{cut_right}
use Rattle.rights.proofs.file_fault.Goals as goal

-- what the tests say of a record's words is what the definitions say of the file's record
module _ (year prices number : ℕ) (file : List ℕ) {right : Right} (is : right ≡ right_at file number) where
  good_here : {days : ℕ} {good is_so : Bool} → days ≡ days_in_year year → good ≡ is_good days right → good ≡ is_so
      → fault_at year prices file 7 number ≡ not is_so
  good_here d g e = fault_7 year prices file number ∙ ap not (ap₂ is_good (sym d) (sym is) ∙ sym g ∙ e)

  unpriced_here : {unpriced : Bool} → unpriced ≡ is_unpriced prices right → fault_at year prices file 8 number ≡ unpriced
  unpriced_here u = fault_8 year prices file number ∙ ap (is_unpriced prices) (sym is) ∙ sym u

pub returns-then-is_outside : goal.returns-then-is_outside
returns-then-is_outside c = outside_answer _ _ _ (sym c.is_outside.ensures ∙ c.if-is_outside.true)

pub returns-then-wrong_length : goal.returns-then-wrong_length
returns-then-wrong_length c =
    wrong_answer _ _ _ (sym c.is_outside.ensures ∙ c.if-is_outside.false) (sym c.wrong_length.ensures ∙ c.if-wrong_length.true)

pub loop-number-init : goal.loop-number-init
loop-number-init c = record { good = any_none _; first = any_none _ }

pub returns-then-not-is_good : goal.returns-then-not-is_good
returns-then-not-is_good c =
    bad_answer _ _ _ (sym c.is_outside.ensures ∙ c.if-is_outside.false) (sym c.wrong_length.ensures ∙ c.if-wrong_length.false) _
    (record {
      inside = omega arith;
      here = good_here _ _ _ _ (cut_right _ _ (omega arith) c.as_chunks.ensures.front c.from_le_bytes-words.ensures.fields) c.days_in_year-days.ensures c.is_good.ensures c.if-not-is_good.true;
      before = c.loop-number.invariant.good;
    })

pub loop-number-preserved : goal.loop-number-preserved
loop-number-preserved c = record {
  good = any_more _ _ c.loop-number.invariant.good
      (good_here _ _ _ _ (cut_right _ _ (omega arith) c.as_chunks.ensures.front c.from_le_bytes-words.ensures.fields) c.days_in_year-days.ensures c.is_good.ensures c.if-not-is_good.false);
  first = rw (c.or-unpriced.ensures, c.then_some-here.ensures)
      (first_next _ _ _ _ c.loop-number.invariant.first
      (unpriced_here _ _ _ _ (c.cut.ensures ∙ cut_right _ _ (omega arith) c.as_chunks.ensures.front c.from_le_bytes-words.ensures.fields) c.is_unpriced.ensures));
}

-- where the loop has ended, no record is left
module _ {count number : ℕ} (all : number ≡ count) (test : ℕ → Bool) where
  none_in_all : any_below test number ≡ false → any_below test count ≡ false
  none_in_all none = subst (λ (n : ℕ). any_below test n ≡ false) all none

  first_in_all : {kept first : Option ℕ} → kept ≡ first → FirstSoFar test number kept → FirstSoFar test count first
  first_in_all {kept} is first = subst (FirstSoFar test count) is (subst (λ (n : ℕ). FirstSoFar test n kept) all first)

pub returns-in-Some : goal.returns-in-Some
returns-in-Some c =
    let all : c.loop-number.number ≡ record_count c.args.file.now = omega arith in
    unpriced_answer _ _ _ (sym c.is_outside.ensures ∙ c.if-is_outside.false) (sym c.wrong_length.ensures ∙ c.if-wrong_length.false) (none_in_all all _ c.loop-number.invariant.good) _
    (first_in_all all _ c.in-Some.is c.loop-number.invariant.first)

pub returns-in-None : goal.returns-in-None
returns-in-None c =
    let all : c.loop-number.number ≡ record_count c.args.file.now = omega arith in
    clear_answer _ _ _ (sym c.is_outside.ensures ∙ c.if-is_outside.false) (sym c.wrong_length.ensures ∙ c.if-wrong_length.false) (none_in_all all _ c.loop-number.invariant.good)
    (first_in_all all _ c.in-None.is c.loop-number.invariant.first)
