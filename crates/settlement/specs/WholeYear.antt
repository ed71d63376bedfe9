-- A whole year of calls in their order, over a file with no rights, for any year.
-- Assumes nothing.
use Rattle.std.specs.Prelude.{ℕ, zero, suc, ◌<◌, ◌≡◌, false, cond, List, [], ◌∷◌, length, ℤ}
use Rattle.numbers.specs.Limits.{owners}
use Rattle.calendar.specs.Almanac.{is_among}
use Rattle.calendar.specs.Year.{hours_in_year, months_in_year, month_ends}
use Rattle.target.specs.Target.{is_wrong_price_count, any_wild}
use Rattle.settlement.specs.Events.{hour_call, month_end_call, year_end_call, is_wild_amount}
use Rattle.settlement.specs.Ledger.{Entry, Asked, sum_over, hour_count, month_end_count, year_end_count}

-- what each hour is given, and the lines lent to each call: to an hour by its number, to a month end by that of the hour before it
pub record YearInput : Type 0 where
  pub prices : ℕ → List ℤ
  pub collected : ℕ → ℤ
  pub hour_lines : ℕ → List ℤ
  pub month_lines : ℕ → List ℤ
  pub year_lines : List ℤ

-- in each hour of the year 1 to 1,024 prices in their range and an amount in its range; 64 lines to each call
pub record IsLegal (year : ℕ) (input : YearInput) : Type 0 where
  pub priced : (hour : ℕ) → hour < hours_in_year year → is_wrong_price_count (length (input.prices hour)) ≡ false
  pub calm : (hour : ℕ) → hour < hours_in_year year → any_wild (input.prices hour) ≡ false
  pub amount : (hour : ℕ) → hour < hours_in_year year → is_wild_amount (input.collected hour) ≡ false
  pub hour_long : (hour : ℕ) → hour < hours_in_year year → length (input.hour_lines hour) ≡ owners
  pub month_long : (hour : ℕ) → hour < hours_in_year year → length (input.month_lines hour) ≡ owners
  pub year_long : length input.year_lines ≡ owners

-- the call of an hour, of the month end behind it, and of the year end
abbrev pub hour_asked : YearInput → ℕ → Asked
hour_asked input hour = record { call = hour_call [] (input.prices hour) (input.collected hour); lent = input.hour_lines hour }

abbrev pub month_asked : YearInput → ℕ → Asked
month_asked input hour = record { call = month_end_call; lent = input.month_lines hour }

abbrev pub year_asked : YearInput → Asked
year_asked input = record { call = year_end_call; lent = input.year_lines }

-- the calls of the first hours, newest first: each hour, and a month end behind the last hour of a month
unfoldable pub calls_to : ℕ → YearInput → ℕ → List Asked
calls_to year input zero = []
calls_to year input (suc hour) =
    cond (is_among (suc hour) (month_ends year)) (month_asked input hour ∷ hour_asked input hour ∷ calls_to year input hour)
    (hour_asked input hour ∷ calls_to year input hour)

-- all of them, and the year end behind the last
unfoldable pub year_calls : ℕ → YearInput → List Asked
year_calls year input = year_asked input ∷ calls_to year input (hours_in_year year)

abbrev pub AllAccepted : List Entry → Type 0
AllAccepted [] = Unit {0}
AllAccepted (entry ∷ past) = (entry.result.refusal ≡ 0) × AllAccepted past

-- a year settled to its end
pub record IsWholeYear (year : ℕ) (ledger : List Entry) : Type 0 where
  pub accepted : AllAccepted ledger
  pub hours : sum_over hour_count ledger ≡ hours_in_year year
  pub months : sum_over month_end_count ledger ≡ months_in_year
  pub ended : 0 < sum_over year_end_count ledger
