-- Sentences on amounts and funds of either sign (Wish 6), each shown of the rules themselves on numbers that are written out; negsuc n is
-- -(n + 1).
-- Assumes nothing.
use Rattle.std.specs.Prelude.{ℕ, ◌≡◌, refl, true, false, List, [], ◌∷◌, map, replicate, get_or, ℤ, pos, negsuc}
use Rattle.numbers.specs.Lists.{total, list_below}
use Rattle.calendar.specs.Almanac.{first_year, days_of_months, days_in_year}
use Rattle.calendar.specs.Year.{ends_from, month_ends}
use Rattle.settlement.specs.Book.{Book, out_of_step, is_out_of_bounds, is_spoiled}
use Rattle.settlement.specs.Events.{payout, month_end_call, year_end_call, wants, fund, unpaid_of, added_to, book_after, is_wild_amount}

-- "Collected may run from -4,000,000,000 up to the old top, and 6 moves with it": at each limit, and one cent past it
pub amounts_taken : map is_wild_amount (negsuc 4_000_000_000 ∷ negsuc 3_999_999_999 ∷ pos 0 ∷ pos 4_000_000_000_000 ∷ pos 4_000_000_000_001 ∷ [])
    ≡ true ∷ false ∷ false ∷ false ∷ true ∷ []
amounts_taken = refl

-- "lie between hours times -4,000,000,000 and hours times 4,004,000,000,000": before the first hour nothing but 0; after two hours at each
-- limit, and one cent past it
pub bounds : (map (is_out_of_bounds 0) (negsuc 0 ∷ pos 0 ∷ pos 1 ∷ []) ≡ true ∷ false ∷ true ∷ [])
    × (map (is_out_of_bounds 2) (negsuc 8_000_000_000 ∷ negsuc 7_999_999_999 ∷ pos 8_008_000_000_000 ∷ pos 8_008_000_000_001 ∷ [])
    ≡ true ∷ false ∷ false ∷ true ∷ [])
bounds = (refl, refl)

-- "If an event's F is negative, no one is paid .. and F itself goes where what is left would have gone": -5 over 1, 2, 4
pub nobody_paid : payout (negsuc 4) (1 ∷ 2 ∷ 4 ∷ []) ≡ record { payments = 0 ∷ 0 ∷ 0 ∷ []; left = negsuc 4 }
unfolding payout
nobody_paid = refl

-- a book of the first year at its last hour, with these months closed, these balances, and a shortfall of owner 0 in its month and in its year
abbrev short_book : ℕ → ℤ → ℤ → Book
short_book months month year =
    record {
      year = first_year;
      hours = 8760;
      months = months;
      ended = false;
      monthshort = 30 ∷ replicate 63 0;
      yearshort = 7 ∷ replicate 63 0;
      monthbalance = month;
      yearbalance = year;
    }

-- what a book holds: owner 0's two cells and the two balances
abbrev held : Book → List ℕ × List ℤ
held book = (get_or book.monthshort 0 0 ∷ get_or book.yearshort 0 0 ∷ [], book.monthbalance ∷ book.yearbalance ∷ [])

-- "every want carries, and F itself goes .. a month's to the year balance": -100 beside the year's 40; and "a year's stays as it is"
pub negative_ends : (held (book_after month_end_call (short_book 11 (negsuc 99) (pos 40))) ≡ (0 ∷ 37 ∷ [], pos 0 ∷ negsuc 59 ∷ []))
    × (held (book_after year_end_call (short_book 12 (pos 0) (negsuc 59))) ≡ (30 ∷ 7 ∷ [], pos 0 ∷ negsuc 59 ∷ []))
unfolding book_after payout fund wants unpaid_of added_to list_below
negative_ends = (refl, refl)

-- "each balance, and the two together": after 8,760 hours a book is sound with the lowest and with the highest month balance, and spoiled one
-- cent past either; and with the second balance one cent further, which by itself lies within the bounds
pub spoiled_balances : map is_spoiled
    (short_book 12 (negsuc 35_039_999_999_999) (pos 0)
    ∷ short_book 12 (pos 35_075_040_000_000_000) (pos 0)
    ∷ short_book 12 (negsuc 35_040_000_000_000) (pos 0)
    ∷ short_book 12 (pos 35_075_040_000_000_001) (pos 0)
    ∷ short_book 12 (negsuc 35_039_999_999_999) (negsuc 0)
    ∷ short_book 12 (pos 35_075_040_000_000_000) (pos 1)
    ∷ [])
    ≡ false ∷ false ∷ true ∷ true ∷ true ∷ true ∷ []
unfolding is_spoiled out_of_step total month_ends ends_from days_of_months days_in_year
spoiled_balances = refl
