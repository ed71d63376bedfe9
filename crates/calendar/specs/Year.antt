-- The operating year, 1 June to 31 May: hours, months, peak hours, and the day table.
-- Assumes nothing.
use Rattle.std.specs.Prelude.{ℕ, ◌+◌, ◌*◌, ◌/◌, ◌%◌, Bool, false, cond, ◌&&◌, List, [], ◌∷◌, ◌++◌, leb, ltb, eqb, get_or, length, drop}
use Rattle.numbers.specs.Lists.{list_below}
use Rattle.numbers.specs.Refusals.{first_refusal, ◌if◌, answer_by}
use Rattle.calendar.specs.Almanac.{is_outside, month_days, days_in_year, is_working}
use Rattle.calendar.specs.declared.OperatingHour.{OperatingHour}

-- "24 to a day"
abbrev pub hours_in_day : ℕ
hours_in_day = 24

-- "Hours are numbered 0 to 8,759", or to 8,783 in a year with a 29 February: "the top hour .. come[s] from that year"
abbrev pub hours_in_year : ℕ → ℕ
hours_in_year year = hours_in_day * days_in_year year

-- "Day = hour / 24 (whole part) + 1"
abbrev pub day_of : ℕ → ℕ
day_of hour = hour / hours_in_day + 1

-- "Month m ends after this many hours": those of its days and of all days before it
unfoldable pub ends_from : ℕ → List ℕ → List ℕ
ends_from hours [] = []
ends_from hours (days ∷ months) = (hours + hours_in_day * days) ∷ ends_from (hours + hours_in_day * days) months

unfoldable pub month_ends : ℕ → List ℕ
month_ends year = ends_from 0 (month_days year)

-- "Months are numbered 0 (June) to 11 (May)"
abbrev pub months_in_year : ℕ
months_in_year = 12

-- the hours after which month m ends; 0 past the last month
abbrev pub month_end : ℕ → ℕ → ℕ
month_end year month = get_or (month_ends year) month 0

-- how many of these month ends stand at or before the hour
unfoldable pub ended_by : List ℕ → ℕ → ℕ
ended_by [] hour = 0
ended_by (end ∷ ends) hour = cond (leb end hour) 1 0 + ended_by ends hour

-- "the hours stand at the next month's end": with so many months closed, one is open and its end is reached
abbrev pub is_month_end : ℕ → ℕ → ℕ → Bool
is_month_end year hours months = ltb months months_in_year && eqb hours (month_end year months)

-- the month of an hour is the number of months that have ended by it
unfoldable pub month_of : ℕ → ℕ → ℕ
month_of year hour = ended_by (month_ends year) hour

-- "A peak hour is one of the hours 6 to 21 of a working day, counted from 0"
unfoldable pub is_peak : ℕ → ℕ → Bool
is_peak year hour = is_working year (day_of hour) && (leb 6 (hour % hours_in_day) && leb (hour % hours_in_day) 21)

-- ---- the calendar call

-- 15; and 3, out of turn: "an hour number above 8,759 in calendar or target calls", or above 8,783 in a year with a 29 February
unfoldable pub calendar_refusal : ℕ → ℕ → ℕ
calendar_refusal year hour = first_refusal ((15 if is_outside year) ∷ (3 if leb (hours_in_year year) hour) ∷ [])

-- "A calendar call takes an hour number and gives its day, its month and whether it is peak"; a refused one gives zeros
unfoldable pub operating_hour : ℕ → ℕ → OperatingHour
operating_hour year hour =
    answer_by (calendar_refusal year hour)
    (record { day = day_of hour; month = month_of year hour; peak = is_peak year hour })
    (record { day = 0; month = 0; peak = false })

-- ---- the day table

-- "one entry for each of the 365 days, giving month and working day": twice the month, plus 1 on a working day, for the day that has so
-- many days before it
unfoldable pub day_entry : ℕ → ℕ → ℕ
day_entry year before = 2 * month_of year (before * hours_in_day) + cond (is_working year (before + 1)) 1 0

-- "the day table must be made for a June that starts any year from 2025 to 2099"
unfoldable pub day_table : ℕ → List ℕ
day_table year = list_below (day_entry year) (days_in_year year)

-- 15; and 4, wrong length, of a lent table with fewer entries than the year has days
unfoldable pub table_refusal : ℕ → ℕ → ℕ
table_refusal year entries = first_refusal ((15 if is_outside year) ∷ (4 if ltb entries (days_in_year year)) ∷ [])

-- the lent table after the call: an accepted one writes an entry for each day, and leaves those behind them
unfoldable pub table_after : ℕ → List ℕ → List ℕ
table_after year before =
    answer_by (table_refusal year (length before)) (day_table year ++ drop (days_in_year year) before) before
