-- The marked cases, shown of the rules themselves: one table, and one test that the prover computes over the whole of it.
-- Assumes nothing.
use Rattle.std.specs.Prelude.{ℕ, ◌≡◌, refl, Bool, true, false, not, ◌&&◌, List, [], ◌∷◌, ◌++◌, eqb, ℤ, pos, negsuc}
use Rattle.numbers.specs.Lists.{total, count_below, any_below, lowest_below, list_below, sum_below}
use Rattle.numbers.specs.Refusals.{first_refusal}
use Rattle.calendar.specs.Almanac.{first_year, days_of_months, days_in_year, date, june_after, june_weekday, weekday, first_from, holidays, kept_on, kept_holidays, is_among, is_working}
use Rattle.calendar.specs.Year.{ends_from, month_ends, ended_by, month_of, is_peak, calendar_refusal, operating_hour}
use Rattle.target.specs.Rounding.{round_tenths}
use Rattle.target.specs.Target.{live_cents, row_cents, own_row, own_sum, target}
use Rattle.split.specs.Split.{whole_part, remainder, unpaid_cents, is_ahead, gets_odd_cent, payment, payments, left}
use Rattle.marked_cases.specs.WrittenOut.{right_until, right_to, prices_at}

-- a marked case: tenths and the cents that they round to; a rights file and prices, with the target of owner 0 in hour 0 of the year that
-- starts in 2025; a fund and its wants, with the payments and what is left; an hour of that year that is peak; one that is off-peak
pub data Case : Type 0 where
  rounds : ℤ → ℤ → Case
  comes_to : List ℕ → List ℤ → ℤ → Case
  splits : ℕ → List ℕ → List ℕ → ℕ → Case
  peak : ℕ → Case
  off_peak : ℕ → Case

-- two whole numbers, and two lists, that are the same
same_number : ℤ → ℤ → Bool
same_number (pos m) (pos n) = eqb m n
same_number (negsuc m) (negsuc n) = eqb m n
same_number (pos m) (negsuc n) = false
same_number (negsuc m) (pos n) = false

same_list : List ℕ → List ℕ → Bool
same_list [] [] = true
same_list (x ∷ xs) (y ∷ ys) = eqb x y && same_list xs ys
same_list [] (y ∷ ys) = false
same_list (x ∷ xs) [] = false

-- the rule gives what the case says
unfoldable pub holds : Case → Bool
unfolding same_number same_list
holds (rounds tenths cents) = same_number (round_tenths tenths) cents
holds (comes_to file prices cents) = same_number (target first_year file prices 0 0) cents
holds (splits fund wants paid rest) = same_list (payments fund wants) paid && eqb (left fund wants) rest
holds (peak hour) = is_peak first_year hour
holds (off_peak hour) = not (is_peak first_year hour)

unfoldable pub all_hold : List Case → Bool
all_hold [] = true
all_hold (case ∷ cases) = holds case && all_hold cases

-- "tenths 5, -5, 4, -15 round to 1, -1, 0, -2", where negsuc n is -(n + 1)
unfoldable pub roundings : List Case
roundings =
    rounds (pos 5) (pos 1)
    ∷ rounds (negsuc 4) (negsuc 0)
    ∷ rounds (pos 4) (pos 0)
    ∷ rounds (negsuc 14) (negsuc 1)
    ∷ []

-- "An owner with two rights that come to 5 tenths of a cent each now has a target of 2 cents, where it had 1" (Wish 2): size 1 times a
-- spread of 5, or of -5; and with one such right 1 cent
unfoldable pub targets_of_rights : List Case
targets_of_rights =
    comes_to (right_to 1 1 ++ right_to 1 1) (prices_at (pos 0) (pos 5)) (pos 2)
    ∷ comes_to (right_to 1 1 ++ right_to 1 1) (prices_at (pos 5) (pos 0)) (negsuc 1)
    ∷ comes_to (right_to 1 1) (prices_at (pos 0) (pos 5)) (pos 1)
    ∷ []

-- "Split 100 over 50, 50, 50: 34, 33, 33. 5 over 1, 2, 4: 1, 1, 3. 6 over the same: 1, 2, 3. 7: 1, 2, 4, left 0; 10: left 3. 4 over
-- 0, 9: 0, 4"
unfoldable pub splittings : List Case
splittings =
    splits 100 (50 ∷ 50 ∷ 50 ∷ []) (34 ∷ 33 ∷ 33 ∷ []) 0
    ∷ splits 5 (1 ∷ 2 ∷ 4 ∷ []) (1 ∷ 1 ∷ 3 ∷ []) 0
    ∷ splits 6 (1 ∷ 2 ∷ 4 ∷ []) (1 ∷ 2 ∷ 3 ∷ []) 0
    ∷ splits 7 (1 ∷ 2 ∷ 4 ∷ []) (1 ∷ 2 ∷ 4 ∷ []) 0
    ∷ splits 10 (1 ∷ 2 ∷ 4 ∷ []) (1 ∷ 2 ∷ 4 ∷ []) 3
    ∷ splits 4 (0 ∷ 9 ∷ []) (0 ∷ 4 ∷ []) 0
    ∷ []

-- "Hours 29 and 46 are off-peak, 30 and 45 peak; hour 798 (a holiday) is off-peak"
unfoldable pub hours : List Case
hours = off_peak 29 ∷ off_peak 46 ∷ peak 30 ∷ peak 45 ∷ off_peak 798 ∷ []

-- the table
unfoldable pub marked_cases : List Case
marked_cases = roundings ++ targets_of_rights ++ splittings ++ hours

pub marked_cases_hold : all_hold marked_cases ≡ true
unfolding marked_cases roundings targets_of_rights splittings hours right_until prices_at holds all_hold round_tenths target own_sum sum_below own_row row_cents live_cents operating_hour calendar_refusal month_of month_ends ends_from ended_by days_of_months days_in_year june_after june_weekday weekday date first_from lowest_below any_below holidays kept_on kept_holidays first_refusal payments payment left total list_below whole_part gets_odd_cent count_below is_ahead remainder unpaid_cents is_peak is_working is_among
marked_cases_hold = refl
