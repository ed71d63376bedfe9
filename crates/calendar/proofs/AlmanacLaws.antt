-- The almanac as the code works it out: the days of a year, the weekday of 1 June, a weekday's first day, the dates of holidays.
-- Assumes nothing.
use Prim.Native.Nat.{ℕ, zero, suc, ◌+◌, ◌-◌, ◌/◌, ◌%◌, ◌<◌, ◌≤◌}
use mathlib.Core.Path.{◌≡◌, refl, sym, ap}
use mathlib.Core.Bool.{Bool, true, false, cond, not, ◌||◌}
use mathlib.Core.List.{List, [], ◌∷◌, map}
use native.Mathlib.Omega.{arith}
use lib.Dec.{ltb, eqb}
use lib.ListN.{take}
use borrow.Author.Tests.{ltb-false, eqb-true, eq-eqb, not-false}
use Rattle.numbers.specs.Lists.{total, any_below}
use Rattle.numbers.proofs.Any.{any_miss}
use Rattle.numbers.proofs.Lowest.{lowest_only, lowest_found, lowest_within}
use Rattle.numbers.proofs.Booleans.{neither_true, flag_most}
use Rattle.calendar.specs.Almanac.{first_year, last_year, is_outside, days_of_months, has_leap_day, days_in_year, most_days, may, date, monday, thursday, june_after, june_weekday, weekday, first_from, holidays, kept_on, kept_holidays, is_among}
use Rattle.calendar.specs.Year.{hours_in_year}

-- ---- the days of a year

pub days_are : (year : ℕ) → days_in_year year ≡ 365 + cond (has_leap_day year) 1 0
unfolding days_in_year days_of_months total
days_are year = by_leap (has_leap_day year)
  where
    by_leap : (leap : Bool) → total (days_of_months leap) ≡ 365 + cond leap 1 0
    by_leap true = refl
    by_leap false = refl

pub days_least : (year : ℕ) → 365 ≤ days_in_year year
days_least year = omega (arith, days_are year)

pub days_most : (year : ℕ) → days_in_year year ≤ most_days
days_most year = omega (arith, days_are year, flag_most (has_leap_day year))

-- the hours of the longest year
abbrev pub most_hours : ℕ
most_hours = 8784

pub hours_most : (year : ℕ) → hours_in_year year ≤ most_hours
hours_most year = omega (arith, days_most year)

-- ---- weekdays

-- one of the calendar's years
pub year_within : (year : ℕ) → is_outside year ≡ false → (first_year ≤ year) × (year ≤ last_year)
year_within year within =
    let parts = neither_true (ltb year first_year) (ltb last_year year) within in
    (ltb-false year first_year parts.0, ltb-false last_year year parts.1)

-- each year moves 1 June on by one weekday, and each 29 February by one more, by one test over the years
moves_otherwise : ℕ → Bool
moves_otherwise years = not (eqb (june_after years) ((years + (years + 1) / 4) % 7))

pub june_is : (year : ℕ) → is_outside year ≡ false → june_weekday year ≡ (year - first_year + (year - first_year + 1) / 4) % 7
unfolding june_weekday moves_otherwise any_below june_after days_in_year days_of_months total
june_is year within =
    eqb-true _ _
    (not-false _ (any_miss moves_otherwise 75 (year - first_year) refl (omega (arith, (year_within year within).0, (year_within year within).1))))

june_after_small : (years : ℕ) → june_after years < 7
unfolding june_after
june_after_small zero = omega arith
june_after_small (suc years) = omega arith

pub june_small : (year : ℕ) → june_weekday year < 7
unfolding june_weekday
june_small year = june_after_small (year - first_year)

pub weekday_small : (year day : ℕ) → weekday year day < 7
unfolding weekday
weekday_small year day = omega arith

-- the first day that is this weekday
module _ (year day wanted : ℕ) where
  abbrev is_wanted : ℕ → Bool
  is_wanted more = eqb (weekday year (day + more)) wanted

  abbrev ahead : ℕ
  ahead = (wanted + 7 - weekday year day) % 7

  none_before : wanted < 7 → (some : Bool) → any_below is_wanted ahead ≡ some → some ≡ false
  unfolding weekday
  none_before inside false e = refl
  none_before inside true e =
      let found = lowest_found is_wanted ahead e in
      absurd (omega (arith, found.inside, eqb-true _ wanted found.here))

  pub first_is : wanted < 7 → first_from year day wanted ≡ day + (wanted + 7 - weekday year day) % 7
  unfolding first_from weekday
  first_is inside =
      sym
      (ap (day +◌)
      (lowest_only is_wanted 7 ahead
      (record { inside = omega arith; here = eq-eqb _ wanted (omega arith); before = none_before inside (any_below is_wanted ahead) refl })))

  pub first_most : first_from year day wanted ≤ day + 7
  unfolding first_from
  first_most = omega (arith, lowest_within is_wanted 7)

-- ---- holidays

-- their dates, of which the last Monday of May alone depends on the year's days
pub holidays_are : (year : ℕ)
    → holidays year
    ≡ 34
    ∷ first_from year 93 monday
    ∷ (first_from year 154 thursday + 21)
    ∷ 208
    ∷ 215
    ∷ first_from year (days_in_year year - 6) monday
    ∷ []
unfolding holidays date days_in_year days_of_months total
holidays_are year =
    ap
    (λ (day : ℕ).
    34
    ∷ first_from year 93 monday
    ∷ (first_from year 154 thursday + 21)
    ∷ 208
    ∷ 215
    ∷ first_from year day monday
    ∷ [])
    (by_leap (has_leap_day year))
  where
    by_leap : (leap : Bool) → total (take may (days_of_months leap)) + 25 ≡ total (days_of_months leap) - 6
    by_leap true = refl
    by_leap false = refl

-- a holiday is kept on a day: one of the six
pub kept_is : (year day : ℕ)
    → is_among day (kept_holidays year)
    ≡ (eqb day (kept_on year 34)
    || (eqb day (kept_on year (first_from year 93 monday))
    || (eqb day (kept_on year (first_from year 154 thursday + 21))
    || (eqb day (kept_on year 208)
    || (eqb day (kept_on year 215) || (eqb day (kept_on year (first_from year (days_in_year year - 6) monday)) || false))))))
unfolding kept_holidays is_among
kept_is year day = ap (λ (days : List ℕ). is_among day (map (kept_on year) days)) (holidays_are year)
