-- Worked examples of the almanac, from public calendars: the weekdays of dates, the days of operating years, and days on which a holiday is kept or
-- not. One table, and one test that the prover computes over the whole of it.
-- Assumes nothing.
use Rattle.std.specs.Prelude.{ℕ, ◌-◌, ◌≡◌, refl, Bool, true, cond, not, ◌&&◌, List, [], ◌∷◌, ◌++◌, leb, eqb}
use Rattle.numbers.specs.Lists.{total, any_below, lowest_below}
use Rattle.calendar.specs.Almanac.{days_of_months, days_in_year, july, september, november, december, january, may, date, sunday, monday, thursday, friday, june_after, june_weekday, weekday, first_from, holidays, kept_on, kept_holidays, is_among, is_working}

-- the months and weekdays that holidays do not name
abbrev june : ℕ
june = 0

abbrev february : ℕ
february = 8

abbrev march : ℕ
march = 9

abbrev tuesday : ℕ
tuesday = 2

abbrev wednesday : ℕ
wednesday = 3

abbrev saturday : ℕ
saturday = 6

-- the operating year of a month: January to May are months of the year that started in the June before
abbrev operating_year : ℕ → ℕ → ℕ
operating_year year month = cond (leb january month) (year - 1) year

-- a date's year, month and day, with its weekday; a working day; a day that is none, though Monday to Friday; an operating year's days
pub data Example : Type 0 where
  falls_on : ℕ → ℕ → ℕ → ℕ → Example
  works : ℕ → ℕ → ℕ → Example
  holiday_kept : ℕ → ℕ → ℕ → Example
  has_days : ℕ → ℕ → Example

-- the weekday of a date, and whether it is a working day
abbrev weekday_of : ℕ → ℕ → ℕ → ℕ
weekday_of year month day =
    weekday (operating_year year month) (date (operating_year year month) month day)

abbrev is_worked : ℕ → ℕ → ℕ → Bool
is_worked year month day =
    is_working (operating_year year month) (date (operating_year year month) month day)

-- the definitions give what the example says
unfoldable pub is_so : Example → Bool
is_so (falls_on year month day wanted) = eqb (weekday_of year month day) wanted
is_so (works year month day) = is_worked year month day
is_so (holiday_kept year month day) =
    (leb monday (weekday_of year month day) && leb (weekday_of year month day) friday) && not (is_worked year month day)
is_so (has_days year days) = eqb (days_in_year year) days

unfoldable pub all_so : List Example → Bool
all_so [] = true
all_so (example ∷ examples) = is_so example && all_so examples

unfoldable pub weekdays : List Example
weekdays =
    falls_on 2025 june 1 sunday
    ∷ falls_on 2025 december 25 thursday
    ∷ falls_on 2026 january 1 thursday
    ∷ falls_on 2026 july 4 saturday
    ∷ falls_on 2027 july 4 sunday
    ∷ falls_on 2028 february 29 tuesday
    ∷ falls_on 2033 december 25 sunday
    ∷ falls_on 2034 january 1 sunday
    ∷ falls_on 2050 january 1 saturday
    ∷ falls_on 2096 february 29 wednesday
    ∷ falls_on 2100 february 28 sunday
    ∷ falls_on 2100 march 1 monday
    ∷ falls_on 2100 may 31 monday
    ∷ []

-- 4 July 2026 is a Saturday: the Friday before it and the Monday after it are working days; in 2027 it is a Sunday, kept on the Monday.
-- November 2029 has five Thursdays
unfoldable pub working_days : List Example
working_days =
    works 2026 july 3
    ∷ works 2026 july 6
    ∷ holiday_kept 2027 july 5
    ∷ works 2027 july 6
    ∷ holiday_kept 2026 november 26
    ∷ holiday_kept 2029 november 22
    ∷ works 2029 november 29
    ∷ holiday_kept 2027 september 6
    ∷ works 2027 may 24
    ∷ holiday_kept 2027 may 31
    ∷ holiday_kept 2033 december 26
    ∷ holiday_kept 2034 january 2
    ∷ []

-- 29 February 2028 and 2096 are in the years that start in 2027 and 2095; 2100 is no leap year
unfoldable pub days_of_years : List Example
days_of_years = has_days 2025 365 ∷ has_days 2027 366 ∷ has_days 2095 366 ∷ has_days 2099 365 ∷ []

-- the table
unfoldable pub examples_of_dates : List Example
examples_of_dates = weekdays ++ working_days ++ days_of_years

pub examples_are_so : all_so examples_of_dates ≡ true
unfolding examples_of_dates weekdays working_days days_of_years is_so all_so weekday date june_weekday june_after days_in_year days_of_months total is_working kept_holidays holidays kept_on first_from lowest_below any_below is_among
examples_are_so = refl
