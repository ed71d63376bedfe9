-- What the scope's paper says of the year that starts in 2025: its month ends, holidays, peak and off-peak hours, and the constant table.
-- Assumes nothing.
use mathlib.Core.Path.{◌≡◌, refl}
use mathlib.Core.Bool.{not}
use mathlib.Core.List.{[], ◌∷◌}
use Rattle.numbers.specs.Lists.{total, any_below, lowest_below, count_below}
use Rattle.calendar.specs.Almanac.{first_year, days_of_months, days_in_year, date, june_after, june_weekday, weekday, first_from, holidays, kept_on, kept_holidays, is_among, is_working}
use Rattle.calendar.specs.Year.{ends_from, month_ends, is_peak, hours_in_year}

-- "Month m ends after this many hours: 720, 1,464, 2,208, .."
pub month_ends_of_2025 : month_ends first_year
    ≡ 720 ∷ 1464 ∷ 2208 ∷ 2928 ∷ 3672 ∷ 4392 ∷ 5136 ∷ 5880 ∷ 6552 ∷ 7296 ∷ 8016 ∷ 8760 ∷ []
unfolding month_ends ends_from days_of_months
month_ends_of_2025 = refl

-- "the holidays, days 34, 93, 180, 208, 215 and 359" of the year that starts in 2025
pub holidays_of_2025 : kept_holidays first_year ≡ 34 ∷ 93 ∷ 180 ∷ 208 ∷ 215 ∷ 359 ∷ []
unfolding kept_holidays holidays kept_on first_from lowest_below any_below date weekday june_weekday june_after days_in_year days_of_months total
holidays_of_2025 = refl

-- "The year has 4,064 peak hours and 4,696 off-peak"
pub peak_hours : count_below (is_peak first_year) (hours_in_year first_year) ≡ 4064
unfolding count_below is_peak is_working kept_holidays holidays kept_on first_from lowest_below any_below date weekday june_weekday june_after days_in_year days_of_months total is_among
peak_hours = refl

pub off_peak_hours : count_below (λ hour. not (is_peak first_year hour)) (hours_in_year first_year) ≡ 4696
unfolding count_below is_peak is_working kept_holidays holidays kept_on first_from lowest_below any_below date weekday june_weekday june_after days_in_year days_of_months total is_among
off_peak_hours = refl
