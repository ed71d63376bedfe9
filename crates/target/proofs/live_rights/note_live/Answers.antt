-- A record that is not sound stops the search; each other one is noted, counted where it is live, and joined to those before it.
use Rattle.std.proofs.Common.{◌*◌, ℕ, List, get_or, leb, not, refl, sym, ap, ◌∙◌, arith}
use Rattle.calendar.proofs.AlmanacLaws.{days_most}
use Rattle.rights.specs.GoodParts.{is_sound, is_within_limits}
use Rattle.rights.proofs.Good.{class_known, days_in_order}
use Rattle.rights.proofs.Readings.{at_place, records_most, whole_records}
use Rattle.target.specs.InnerContracts.{is_live_on}
use Rattle.target.proofs.Search.{fits_today, one_at_most, searched_next, searched_none}
use Rattle.target.proofs.live_rights.note_live.Goals as goal

pub day_if-day-requires : goal.day_if-day-requires
day_if-day-requires c = rw (c.classes_that_fit-fits.ensures) (one_at_most c.args.hour.peak _)

pub raised-requires : goal.raised-requires
raised-requires c = omega (arith, c.days_in_year-days.ensures, days_most c.args.year)

pub record_at-requires : goal.record_at-requires
record_at-requires c = omega (arith, c.loop-noted.invariant.end_whole, whole_records c.args.rights.now c.requires)

pub loop-noted-init : goal.loop-noted-init
loop-noted-init c = searched_none _ _ _ _ _ (omega arith) (omega arith) (omega arith) (omega arith)

pub loop-noted-preserved : goal.loop-noted-preserved
loop-noted-preserved c =
    let so_far = c.loop-noted.invariant in
    let file = c.args.rights.now in
    let right = c.cut-right.result in
    let is = c.cut-right.ensures ∙ c.from_le_bytes-words.ensures.fields ∙ c.record_at.ensures ∙ at_place file c.loop-noted.noted.end so_far.end_whole in
    let sound = ap is_sound c.cut-right.ensures ∙ sym c.is_sound.ensures ∙ c.if-not-is_sound.false in
    searched_next _ _ _ _ _ so_far right is sound (omega (arith, so_far.live.fewer, so_far.end_whole, whole_records file c.requires, records_most file c.requires))
    _ c.from_le_bytes-words.result.low c.raised.result _ (omega arith) (omega (arith, c.from-in-loop-noted.ensures)) refl refl
    (omega (arith, so_far.end_whole, whole_records file c.requires))
    (ap is_within_limits (sym c.cut-right.ensures))
    (c.raised.ensures ∙ ap (leb right.last) c.days_in_year-days.ensures)
    (sym (fits_today c.args.hour right (class_known right sound) (days_in_order right sound).0)
    ∙ ap (λ (fits : List ℕ). is_live_on right (c.args.hour.day * get_or fits right.class 0)) (sym c.classes_that_fit-fits.ensures)
    ∙ ap (λ (k : ℕ). is_live_on right (c.args.hour.day * get_or c.classes_that_fit-fits.result k 0)) (sym c.from.ensures)
    ∙ ap (is_live_on right) (sym c.day_if-day.ensures)
    ∙ sym c.is_live_on.ensures)

pub returns-then-not-is_sound : goal.returns-then-not-is_sound
returns-then-not-is_sound c =
    record {
      to_here = c.loop-noted.invariant;
      stops = λ inside.
          ap not
          (ap is_sound (sym (c.from_le_bytes-words.ensures.fields ∙ c.record_at.ensures ∙ at_place c.args.rights.now c.loop-noted.noted.end c.loop-noted.invariant.end_whole))
          ∙ sym c.is_sound.ensures ∙ c.if-not-is_sound.true);
    }
