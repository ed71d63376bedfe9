-- Sentences of the papers, each shown of the rules themselves: three on the rights file, on a file that is written out; those on the years of
-- the calendar; and those on the limits of two pools, on wants that are written out.
-- Assumes nothing.
use Rattle.std.specs.Prelude.{ℕ, ◌≡◌, refl, List, [], ◌∷◌, ◌++◌, map, length, replicate, ℤ, pos}
use Rattle.numbers.specs.Lists.{total, any_below, lowest_below, sum_below}
use Rattle.numbers.specs.Refusals.{first_refusal}
use Rattle.calendar.specs.Almanac.{first_year, days_of_months, days_in_year, date, june_after, june_weekday, weekday, first_from, holidays, kept_on, kept_holidays, is_among, is_working}
use Rattle.calendar.specs.Year.{ends_from, month_ends, ended_by, month_of, is_peak, calendar_refusal, operating_hour}
use Rattle.rights.specs.Layout.{record_count}
use Rattle.rights.specs.Faults.{fault_at, any_fault, fault_rows, file_refusal, faulty_record}
use Rattle.split.specs.declared.Limits.{Limits}
use Rattle.split.specs.Split.{limits_of, split_refusal}
use Rattle.settlement.specs.Book.{year_refusal}
use Rattle.settlement.specs.Events.{hall}
use Rattle.target.specs.Rounding.{round_tenths}
use Rattle.target.specs.Target.{live_cents, row_cents, own_row, own_sum, target}
use Rattle.marked_cases.specs.WrittenOut.{right_until, right_to, prices_at}

-- "An empty file is good": no refusal, whatever the number of prices, and no record
pub empty_file : (prices : ℕ) → (file_refusal first_year prices [] ≡ 0) × (record_count [] ≡ 0)
unfolding file_refusal fault_rows any_fault any_below first_refusal
empty_file prices = (refl, refl)

-- a right of 100 tenths to node 1; one to node 5, which has no price among two; one of size 0, which is bad
unfoldable pub one_right : List ℕ
one_right = right_to 1 100

unfoldable pub unpriced_right : List ℕ
unpriced_right = right_to 5 100

unfoldable pub bad_right : List ℕ
bad_right = right_to 1 0

-- cents at node 0 and at node 1
unfoldable pub two_prices : List ℤ
two_prices = prices_at (pos 500) (pos 1500)

-- "Equal records each count": the same record twice is no fault; in hour 0 it is worth 10,000 cents to its owner once, 20,000 twice
pub equal_records : (file_refusal first_year 2 (one_right ++ one_right) ≡ 0)
    × ((target first_year one_right two_prices 0 0 ≡ pos 10_000) × (target first_year (one_right ++ one_right) two_prices 0 0 ≡ pos 20_000))
unfolding right_until one_right prices_at two_prices file_refusal fault_rows any_fault any_below fault_at first_refusal target own_sum sum_below own_row row_cents live_cents round_tenths operating_hour calendar_refusal month_of month_ends ends_from ended_by days_of_months days_in_year total june_after june_weekday weekday date first_from lowest_below holidays kept_on kept_holidays is_peak is_working is_among
equal_records = (refl, (refl, refl))

-- "the lowest one with that fault" (Wish 3): 8 names record 1; with two bad records behind it, 7 names record 2, the first bad one, and
-- not record 1, the first with any fault
pub first_bad_named : (file_refusal first_year 2 (one_right ++ unpriced_right) ≡ 8)
    × ((faulty_record first_year 2 (one_right ++ unpriced_right) 8 ≡ 1)
    × ((file_refusal first_year 2 (one_right ++ unpriced_right ++ bad_right ++ bad_right) ≡ 7)
    × (faulty_record first_year 2 (one_right ++ unpriced_right ++ bad_right ++ bad_right) 7 ≡ 2)))
unfolding right_until days_of_months days_in_year total one_right unpriced_right bad_right file_refusal fault_rows any_fault any_below fault_at first_refusal faulty_record lowest_below
first_bad_named = (refl, (refl, (refl, refl)))

-- "15 when the year is outside 2025 to 2099, before any other check" (Wish 7): opening a book, and an hour that no year has; "the top hour ..
-- come[s] from that year": 8,783 is an hour of the year that starts in 2027, and 8,760 none of that in 2099
pub no_such_year : (map year_refusal (2024 ∷ 2025 ∷ 2099 ∷ 2100 ∷ []) ≡ 15 ∷ 0 ∷ 0 ∷ 15 ∷ [])
    × (calendar_refusal 2100 8784
    ∷ calendar_refusal 2099 8760
    ∷ calendar_refusal 2027 8783
    ∷ calendar_refusal 2027 8784
    ∷ []
    ≡ 15 ∷ 3 ∷ 0 ∷ 3 ∷ [])
unfolding year_refusal calendar_refusal first_refusal days_in_year days_of_months total
no_such_year = (refl, refl)

-- "the top day .. come[s] from that year": a right to day 366 is good in the year that starts in 2027, and bad in those of 2025 and 2099
unfoldable pub right_to_366 : List ℕ
right_to_366 = right_until 1 100 110

pub top_day : map (λ year. file_refusal year 2 right_to_366) (2025 ∷ 2027 ∷ 2099 ∷ []) ≡ 7 ∷ 0 ∷ 7 ∷ []
unfolding right_to_366 right_until file_refusal fault_rows any_fault any_below fault_at first_refusal days_in_year days_of_months total
top_day = refl

-- the number that a split call gives a caller of these limits, with a payment lent for each want
unfoldable pub called : Limits → List ℕ → ℕ
called limits wants = split_refusal limits wants (length wants)

-- "A municipal pool of at most 16 owners, with a total of at most 100,000,000 cents" (Wish 8)
abbrev pub municipal : Limits
municipal = limits_of 16 100_000_000

-- the numbers at each pool's limits and one past: for 16, 17, 64 and 65 wants; for one want of the municipal pool's total, of a cent more, of
-- the hall's, of a cent more than that
unfoldable pub at_the_limits : Limits → List ℕ
at_the_limits limits =
    called limits (replicate 16 1)
    ∷ called limits (replicate 17 1)
    ∷ called limits (replicate 64 1)
    ∷ called limits (replicate 65 1)
    ∷ called limits (100_000_000 ∷ [])
    ∷ called limits (100_000_001 ∷ [])
    ∷ called limits (4_000_000_000 ∷ [])
    ∷ called limits (4_000_000_001 ∷ [])
    ∷ []

pub of_the_municipal_pool : at_the_limits municipal ≡ 0 ∷ 16 ∷ 16 ∷ 4 ∷ 0 ∷ 17 ∷ 17 ∷ 11 ∷ []
unfolding at_the_limits called split_refusal first_refusal total
of_the_municipal_pool = refl

-- "and our own limits remain beside it"
pub of_the_hall : at_the_limits hall ≡ 0 ∷ 0 ∷ 0 ∷ 4 ∷ 0 ∷ 0 ∷ 0 ∷ 11 ∷ []
unfolding at_the_limits called split_refusal first_refusal total
of_the_hall = refl

-- "right after 4": 17 wants of more than 4,000,000,000 are 16, and with limits that no caller may have all is 4: owners of 0 and of 65, a total
-- of 0 and of 4,000,000,001
pub in_their_order :
    (called municipal (4_000_000_001 ∷ replicate 16 0) ≡ 16)
    × (called (limits_of 0 100_000_000) []
    ∷ called (limits_of 65 100_000_000) (1 ∷ [])
    ∷ called (limits_of 16 0) (replicate 17 1)
    ∷ called (limits_of 16 4_000_000_001) (4_000_000_001 ∷ [])
    ∷ []
    ≡ 4 ∷ 4 ∷ 4 ∷ 4 ∷ [])
unfolding called split_refusal first_refusal total
in_their_order = (refl, refl)
