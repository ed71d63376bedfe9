-- The almanac of an operating year, 1 June to 31 May: the days of its months, its weekdays and its holidays. A year is named by the one in
-- which its June stands.
-- Assumes nothing.
use Rattle.std.specs.Prelude.{ℕ, zero, suc, ◌+◌, ◌-◌, ◌%◌, Bool, false, cond, not, ◌&&◌, ◌||◌, List, [], ◌∷◌, leb, ltb, eqb, take, map}
use Rattle.numbers.specs.Lists.{lowest_below, total}

-- "a June that starts any year from 2025 to 2099"
abbrev pub first_year : ℕ
first_year = 2025

abbrev pub last_year : ℕ
last_year = 2099

-- 15: "when the year is outside 2025 to 2099"
abbrev pub is_outside : ℕ → Bool
is_outside year = ltb year first_year || ltb last_year year

-- ---- months and days

-- "February follows the Gregorian rule": of the years that 4 divides, those that 100 divides are leap years only if 400 divides them
abbrev pub is_leap : ℕ → Bool
is_leap year = eqb (year % 4) 0 && (not (eqb (year % 100) 0) || eqb (year % 400) 0)

-- the days of each month, "0 (June) to 11 (May)", by whether its February is one of a leap year
unfoldable pub days_of_months : Bool → List ℕ
days_of_months leap = 30 ∷ 31 ∷ 31 ∷ 30 ∷ 31 ∷ 30 ∷ 31 ∷ 31 ∷ cond leap 29 28 ∷ 31 ∷ 30 ∷ 31 ∷ []

-- January to May, and so February, are months of the next year
abbrev pub has_leap_day : ℕ → Bool
has_leap_day year = is_leap (year + 1)

abbrev pub month_days : ℕ → List ℕ
month_days year = days_of_months (has_leap_day year)

-- "days run 1 to 365"; "the top day .. come[s] from that year"
unfoldable pub days_in_year : ℕ → ℕ
days_in_year year = total (month_days year)

-- the days of the longest year
abbrev pub most_days : ℕ
most_days = 366

-- the months that dates name, by their numbers
abbrev pub july : ℕ
july = 1

abbrev pub september : ℕ
september = 3

abbrev pub november : ℕ
november = 5

abbrev pub december : ℕ
december = 6

abbrev pub january : ℕ
january = 7

abbrev pub may : ℕ
may = 11

-- the day of a date: the days of the months before it, and the date's own
unfoldable pub date : ℕ → ℕ → ℕ → ℕ
date year month day = total (take month (month_days year)) + day

-- ---- weekdays

-- 0 is Sunday, 1 Monday, 6 Saturday
abbrev pub sunday : ℕ
sunday = 0

abbrev pub monday : ℕ
monday = 1

abbrev pub thursday : ℕ
thursday = 4

abbrev pub friday : ℕ
friday = 5

-- the weekday of 1 June, so many years after 2025, and so from 2025 on: "Day 1 is a Sunday" then, and each year moves it on by its days
unfoldable pub june_after : ℕ → ℕ
june_after zero = sunday
june_after (suc years) = (june_after years + days_in_year (first_year + years)) % 7

unfoldable pub june_weekday : ℕ → ℕ
june_weekday year = june_after (year - first_year)

-- the weekday of a day: day 1 is 1 June, and each day after it moves on by one; 6 more stand for one less, since 7 days change nothing
unfoldable pub weekday : ℕ → ℕ → ℕ
weekday year day = (june_weekday year + day + 6) % 7

-- ---- holidays

-- the first day that is this weekday, from a day on
unfoldable pub first_from : ℕ → ℕ → ℕ → ℕ
first_from year day wanted = day + lowest_below (λ more. eqb (weekday year (day + more)) wanted) 7

-- "4 July, the first Monday of September, the fourth Thursday of November", three weeks after the first, "25 December", "1 January", "the last
-- Monday of May", which is the one of its last seven days: in the order of the year
unfoldable pub holidays : ℕ → List ℕ
holidays year =
    date year july 4
    ∷ first_from year (date year september 1) monday
    ∷ (first_from year (date year november 1) thursday + 21)
    ∷ date year december 25
    ∷ date year january 1
    ∷ first_from year (date year may 25) monday
    ∷ []

-- "a holiday on a Sunday is kept on the Monday after"
unfoldable pub kept_on : ℕ → ℕ → ℕ
kept_on year day = day + cond (eqb (weekday year day) sunday) 1 0

unfoldable pub kept_holidays : ℕ → List ℕ
kept_holidays year = map (kept_on year) (holidays year)

unfoldable pub is_among : ℕ → List ℕ → Bool
is_among number [] = false
is_among number (other ∷ others) = eqb number other || is_among number others

-- "A working day is Monday to Friday except the holidays"
unfoldable pub is_working : ℕ → ℕ → Bool
is_working year day = (leb monday (weekday year day) && leb (weekday year day) friday) && not (is_among day (kept_holidays year))
