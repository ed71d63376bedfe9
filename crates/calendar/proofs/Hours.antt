-- From the entry of a day to the answer for an hour.
-- Assumes nothing.
use Prim.Native.Nat.{ℕ, zero, suc, ◌+◌, ◌*◌, ◌/◌, ◌%◌, ◌<◌, ◌≤◌}
use mathlib.Core.Path.{◌≡◌, refl, ap, ap₂, ◌∙◌}
use mathlib.Core.Bool.{Bool, true, false, cond, ◌&&◌}
use mathlib.Core.List.{List, [], ◌∷◌}
use native.Mathlib.Nat.{le_refl}
use native.Mathlib.Omega.{arith}
use lib.Dec.{leb, eqb}
use lib.ListN.{length}
use Rattle.std.specs.Prelude.{Result, Ok, Err}
use Rattle.std.specs.Result.{result_unwrap_or}
use borrow.Author.Tests.{leb-true, leb-false, le-leb, lt-leb, eqb-true, eq-eqb, ne_eqb}
use Rattle.numbers.specs.declared.refusal.Refusal.{Refusal}
use Rattle.numbers.specs.declared.refusal.Refusal.TheVariants.{OutOfTurn, NoSuchYear}
use Rattle.numbers.specs.Refusals.{answer_by, answered, first_refusal}
use Rattle.numbers.proofs.Refusals.{IsNumber, is_number}
use Rattle.numbers.proofs.Booleans.{both_true, flag_most}
use Rattle.calendar.specs.declared.OperatingHour.{OperatingHour}
use Rattle.calendar.specs.Almanac.{has_leap_day, is_outside, days_of_months, is_working}
use Rattle.calendar.specs.Year.{hours_in_year, hours_in_day, months_in_year, month_ends, ends_from, day_of, ended_by, month_of, is_peak, day_entry, calendar_refusal, operating_hour}

-- ---- the month of an hour is that of its day, since months end with a day

-- every month ends with a day
whole_days : List ℕ → Bool
whole_days [] = true
whole_days (end ∷ ends) = eqb (end % 24) 0 && whole_days ends

end_with_day : (end hour : ℕ) (test : Bool) → end % 24 ≡ 0 → leb end hour ≡ test → leb end (hour / 24 * 24) ≡ test
end_with_day end hour true whole e = le-leb end (hour / 24 * 24) (omega (arith, leb-true end hour e))
end_with_day end hour false whole e = lt-leb end (hour / 24 * 24) (omega (arith, leb-false end hour e))

ended_with_day : (ends : List ℕ) (hour : ℕ) → whole_days ends ≡ true → ended_by ends (hour / 24 * 24) ≡ ended_by ends hour
unfolding whole_days ended_by
ended_with_day [] hour whole = refl
ended_with_day (end ∷ ends) hour whole =
    let both = both_true (eqb (end % 24) 0) (whole_days ends) whole in
    ap₂ (λ (test : Bool) (rest : ℕ). cond test 1 0 + rest)
    (end_with_day end hour (leb end hour) (eqb-true (end % 24) 0 both.0) refl)
    (ended_with_day ends hour both.1)

pub month_of_day : (year hour : ℕ) → month_of year (hour / hours_in_day * hours_in_day) ≡ month_of year hour
unfolding month_of month_ends whole_days ends_from days_of_months
month_of_day year hour = ended_with_day (month_ends year) hour (by_leap (has_leap_day year))
  where
    by_leap : (leap : Bool) → whole_days (ends_from 0 (days_of_months leap)) ≡ true
    by_leap true = refl
    by_leap false = refl

-- ---- what stands in a day's entry

entry_month : (month : ℕ) (working : Bool) → (2 * month + cond working 1 0) / 2 ≡ month
entry_month month true = omega arith
entry_month month false = omega arith

entry_working : (month : ℕ) (working : Bool) → eqb ((2 * month + cond working 1 0) % 2) 1 ≡ working
entry_working month true = eq-eqb ((2 * month + 1) % 2) 1 (omega arith)
entry_working month false = ne_eqb ((2 * month + 0) % 2) 1 (λ e. omega arith)

-- ---- the answer, by whether the calendar has the year, and the year the hour

-- the answer for an hour of the year
abbrev pub hour_of_year : ℕ → ℕ → OperatingHour
hour_of_year year hour = record { day = day_of hour; month = month_of year hour; peak = is_peak year hour }

pub refusal_inside : (year hour : ℕ) → is_outside year ≡ false → hour < hours_in_year year → calendar_refusal year hour ≡ 0
unfolding calendar_refusal first_refusal
refusal_inside year hour within inside = rw (within, lt-leb (hours_in_year year) hour inside)

pub refusal_outside : (year hour : ℕ) → is_outside year ≡ false → hours_in_year year ≤ hour → calendar_refusal year hour ≡ 3
unfolding calendar_refusal first_refusal
refusal_outside year hour within outside = rw (within, le-leb (hours_in_year year) hour outside)

pub refusal_no_year : (year hour : ℕ) → is_outside year ≡ true → calendar_refusal year hour ≡ 15
unfolding calendar_refusal first_refusal
refusal_no_year year hour outside = rw outside

pub hour_inside : (year hour : ℕ) → is_outside year ≡ false → hour < hours_in_year year → operating_hour year hour ≡ hour_of_year year hour
unfolding operating_hour
hour_inside year hour within inside = rw (refusal_inside year hour within inside)

-- each number of a calendar call is a refusal's
pub calendar_number : (year hour : ℕ) → IsNumber (calendar_refusal year hour)
unfolding calendar_refusal
calendar_number year hour = is_number _ refl

-- the hour that a call answers, or zeros
pub hour_or_none : (year hour : ℕ)
    → result_unwrap_or (answered (calendar_refusal year hour) 0 (operating_hour year hour)) (record { day = 0; month = 0; peak = false })
    ≡ operating_hour year hour
unfolding operating_hour
hour_or_none year hour = by_number (calendar_refusal year hour)
  where
    by_number : (number : ℕ)
        → result_unwrap_or (answered number 0 (answer_by number (hour_of_year year hour) (record { day = 0; month = 0; peak = false }))) (record { day = 0; month = 0; peak = false })
        ≡ answer_by number (hour_of_year year hour) (record { day = 0; month = 0; peak = false })
    by_number zero = refl
    by_number (suc n) = refl

-- a refused call's answer
pub no_such_year : (year hour : ℕ) → is_outside year ≡ true
    → Err NoSuchYear ≡ answered (calendar_refusal year hour) 0 (operating_hour year hour)
no_such_year year hour outside = rw (refusal_no_year year hour outside)

pub out_of_turn : (year hour : ℕ) → is_outside year ≡ false → hours_in_year year ≤ hour
    → Err OutOfTurn ≡ answered (calendar_refusal year hour) 0 (operating_hour year hour)
out_of_turn year hour within outside = rw (refusal_outside year hour within outside)

-- there are at most as many months as month ends
ended_most : (ends : List ℕ) (hour : ℕ) → ended_by ends hour ≤ length ends
unfolding ended_by
ended_most [] hour = le_refl 0
ended_most (end ∷ ends) hour = omega (arith, ended_most ends hour, flag_most (leb end hour))

pub month_most : (year hour : ℕ) → month_of year hour ≤ months_in_year
unfolding month_of month_ends ends_from days_of_months
month_most year hour = ended_most (month_ends year) hour

-- the answer put together from the entry of the hour's day is the calendar's
pub from_entry : (year hour entry : ℕ) (peak : Bool) → is_outside year ≡ false → hour < hours_in_year year → entry ≡ day_entry year (hour / hours_in_day)
    → peak ≡ (eqb (entry % 2) 1 && (leb 6 (hour % hours_in_day) && leb (hour % hours_in_day) 21))
    → ◌≡◌ {A = Result OperatingHour Refusal}
    (Ok (record { day = hour / hours_in_day + 1; month = entry / 2; peak = peak }))
    (answered (calendar_refusal year hour) 0 (operating_hour year hour))
unfolding is_peak day_entry
from_entry year hour entry peak within inside e p =
    rw (refusal_inside year hour within inside, hour_inside year hour within inside)
    (λ i. Ok (record { day = day_of hour; month = month i; peak = (p ∙ ap (λ (working : Bool). working && in_day) peaks) i }))
  where
    in_day : Bool
    in_day = leb 6 (hour % hours_in_day) && leb (hour % hours_in_day) 21

    working : Bool
    working = is_working year (hour / hours_in_day + 1)

    month : entry / 2 ≡ month_of year hour
    month = ap (◌/ 2) e ∙ entry_month (month_of year (hour / hours_in_day * hours_in_day)) working ∙ month_of_day year hour

    peaks : eqb (entry % 2) 1 ≡ working
    peaks = ap (λ (x : ℕ). eqb (x % 2) 1) e ∙ entry_working (month_of year (hour / hours_in_day * hours_in_day)) working

-- for a refused hour's answer and an accepted one's
pub ruleset answers = (no_such_year, out_of_turn, from_entry)
