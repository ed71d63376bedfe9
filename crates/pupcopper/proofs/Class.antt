-- The class of an hour, from what the calendar call answers.
-- Assumes nothing.
use Prim.Native.Nat.{ℕ, ◌+◌, ◌*◌, ◌≤◌, ◌<◌}
use mathlib.Core.Path.{◌≡◌, refl, sym, ◌∙◌, subst}
use mathlib.Core.Bool.{Bool, true, false}
use native.Mathlib.Omega.{arith}
use lib.Dec.{leb}
use borrow.Author.Tests.{leb-true, leb-false}
use mir.Val.{bool_byte}
use Rattle.std.specs.Prelude.{Result, Ok, Err}
use Rattle.numbers.specs.declared.refusal.Refusal.{Refusal}
use Rattle.numbers.specs.Refusals.{answered}
use Rattle.numbers.proofs.Refusals.{answer_refused, answered_err, answered_ok}
use Rattle.calendar.specs.declared.OperatingHour.{OperatingHour}
use Rattle.calendar.specs.Almanac.{is_outside}
use Rattle.calendar.specs.Year.{hours_in_year, is_peak, operating_hour, calendar_refusal}
use Rattle.calendar.proofs.Hours.{refusal_inside, refusal_outside, refusal_no_year, hour_inside, hour_of_year, month_most}
use Rattle.pupcopper.specs.Billing.{billing_class}
use Rattle.numbers.proofs.Booleans.{flag_byte}

-- an hour that the calendar does not refuse is one of a year that it has
accepted_inside : (year hour : ℕ) → calendar_refusal year hour ≡ 0 → (is_outside year ≡ false) × (hour < hours_in_year year)
accepted_inside year hour none = by_year (is_outside year) refl
  where
    by_hour : is_outside year ≡ false → (test : Bool) → leb (hours_in_year year) hour ≡ test → hour < hours_in_year year
    by_hour within true e = absurd (omega (arith, refusal_outside year hour within (leb-true (hours_in_year year) hour e)))
    by_hour within false e = leb-false (hours_in_year year) hour e

    by_year : (outside : Bool) → is_outside year ≡ outside → (is_outside year ≡ false) × (hour < hours_in_year year)
    by_year true e = absurd (omega (arith, refusal_no_year year hour e))
    by_year false e = (e, by_hour e (leb (hours_in_year year) hour) refl)

module _ (year hour : ℕ) {outcome : Result OperatingHour Refusal} (answer : outcome ≡ answered (calendar_refusal year hour) 0 (operating_hour year hour)) where
  pub class_refused : {refusal : Refusal} → outcome ≡ Err refusal → 255 ≡ billing_class year hour
  unfolding billing_class
  class_refused err =
      sym (answer_refused (calendar_refusal year hour) _ 255 (λ none. omega (arith, (answered_err _ 0 _ (sym answer ∙ err)).0)))

  module _ {found : OperatingHour} (ok : outcome ≡ Ok found) where
    inside : (is_outside year ≡ false) × (hour < hours_in_year year)
    inside = accepted_inside year hour (answered_ok _ 0 _ (sym answer ∙ ok)).0

    given : found ≡ hour_of_year year hour
    given = (answered_ok _ 0 _ (sym answer ∙ ok)).1 ∙ hour_inside year hour inside.0 inside.1

    pub class_given : 2 * found.month + bool_byte found.peak ≡ billing_class year hour
    unfolding billing_class
    class_given = rw (refusal_inside year hour inside.0 inside.1, given, flag_byte (is_peak year hour))

    -- a month is at most 12
    pub small : found.month ≤ 12
    small = subst (λ (h : OperatingHour). h.month ≤ 12) (sym given) (month_most year hour)

pub with_peak : (month : ℕ) (peak : Bool) → month ≤ 12 → 2 * month + bool_byte peak < 256
with_peak month true h = omega arith
with_peak month false h = omega arith

-- for a given hour
pub ruleset class_laws = (class_given, small, with_peak)
