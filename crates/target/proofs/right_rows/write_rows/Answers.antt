-- One more line is the row of its record, since each record of a file without a fault is good and has its prices.
use Rattle.std.proofs.Common.{ℕ, ◌≡◌, ◌<◌, true, false, List, refl, sym, ap, subst, ◌∙◌, arith}
use Rattle.std.proofs.lemmas.Int.{to_z-of_z}
use Rattle.numbers.specs.Lists.{list_below}
use Rattle.numbers.proofs.Counts.{filled_more, filled_all}
use Rattle.calendar.specs.Almanac.{days_in_year}
use Rattle.calendar.proofs.AlmanacLaws.{days_most}
use Rattle.rights.specs.declared.Right.{Right}
use Rattle.rights.specs.Layout.{record_count, right_at, is_good}
use Rattle.rights.specs.Faults.{file_refusal, is_unpriced}
use Rattle.rights.proofs.Faults.{clear_record}
use Rattle.rights.proofs.Good.{good_small, owner_is_good, size_is_good}
use Rattle.rights.proofs.RecordWords.{cut_right}
use Rattle.target.specs.Target.{row_cents, row_at}
use Rattle.target.proofs.right_rows.write_rows.Goals as goal

pub loop-number-init : goal.loop-number-init
unfolding list_below
loop-number-init c = refl

-- of a file without a fault, the right cut from a record is good and has its prices
right_fine : (year prices : ℕ) (file : List ℕ) → file_refusal year prices file ≡ 0 → (number : ℕ) → number < record_count file
    → (right : Right) → right ≡ right_at file number → (is_good (days_in_year year) right ≡ true) × (is_unpriced prices right ≡ false)
right_fine year prices file clear number inside right is =
    subst (λ (r : Right). (is_good (days_in_year year) r ≡ true) × (is_unpriced prices r ≡ false)) (sym is) (clear_record year prices file clear number inside)

pub invariant_of-row_cents : goal.invariant_of-row_cents
invariant_of-row_cents c =
    let fine = right_fine _ _ _ c.requires.0 c.loop-number.number (omega arith) c.cut-right.result (c.cut-right.ensures ∙ cut_right _ _ (omega arith) c.as_chunks.ensures.front c.from_le_bytes.ensures.fields) in
    record { owned = owner_is_good (days_in_year c.args.year) c.cut-right.result fine.0; kinded = (good_small (days_in_year c.args.year) c.cut-right.result fine.0 (days_most c.args.year)).kind; sized = size_is_good (days_in_year c.args.year) c.cut-right.result fine.0; priced = fine.1; tame = c.requires.1 }

pub loop-number-preserved : goal.loop-number-preserved
loop-number-preserved c =
    filled_more (row_at c.args.rights.now c.args.prices.now c.args.hour) _ _ _ (omega arith)
    (grind (arith, to_z-of_z, c.row_cents.ensures)
    ∙ ap (row_cents c.args.prices.now c.args.hour) (c.cut-right.ensures ∙ cut_right _ _ (omega arith) c.as_chunks.ensures.front c.from_le_bytes.ensures.fields))
    c.loop-number.invariant

pub returns : goal.returns
returns c =
    filled_all (row_at c.args.rights.now c.args.prices.now c.args.hour) _ _ _ (omega arith) (omega arith) c.loop-number.invariant
