-- The book of the rules: what it holds, and when it is spoiled. The library keeps it laid out by owner (specs/ByOwner.antt).
-- Assumes nothing.
use Rattle.std.specs.Prelude.{ℕ, zero, suc, ◌+◌, Bool, false, not, ◌&&◌, ◌||◌, List, [], ◌∷◌, leb, ltb, eqb, get_or, replicate, ℤ, pos, neg_ℤ, ◌+ℤ◌, ◌*ℤ◌, int_lt}
use Rattle.numbers.specs.Limits.{owners, most_cents}
use Rattle.numbers.specs.Lists.{total}
use Rattle.numbers.specs.Refusals.{◌if◌, first_refusal, answer_by}
use Rattle.calendar.specs.Almanac.{is_outside}
use Rattle.calendar.specs.Year.{hours_in_year, months_in_year, month_end}

-- "A book has the hours settled, the months closed, an ended mark, a month and a year shortfall for each owner, a month surplus and a year
-- surplus", each surplus now "a signed balance" (Wish 6), and its year (Wish 7)
pub record Book : Type 0 where
  pub year : ℕ
  pub hours : ℕ
  pub months : ℕ
  pub ended : Bool
  pub monthshort : List ℕ
  pub yearshort : List ℕ
  pub monthbalance : ℤ
  pub yearbalance : ℤ

-- "all 0 when fresh", and of its year: "A book opens with its year and keeps it"
unfoldable pub fresh : ℕ → Book
fresh year =
    record {
      year = year;
      hours = 0;
      months = 0;
      ended = false;
      monthshort = replicate owners 0;
      yearshort = replicate owners 0;
      monthbalance = pos 0;
      yearbalance = pos 0;
    }

-- 15: "opening a book gives it too, with a book all 0, year included"
unfoldable pub year_refusal : ℕ → ℕ
year_refusal year = first_refusal ((15 if is_outside year) ∷ [])

unfoldable pub opened : ℕ → Book
opened year = answer_by (year_refusal year) (fresh year) (fresh 0)

-- "a month and a year shortfall for each owner"
abbrev pub month_short : Book → ℕ → ℕ
month_short book owner = get_or book.monthshort owner 0

abbrev pub year_short : Book → ℕ → ℕ
year_short book owner = get_or book.yearshort owner 0

-- "The open shortfall of an owner is its month plus its year cell"
abbrev pub open_shortfall : Book → ℕ → ℕ
open_shortfall book owner = month_short book owner + year_short book owner

-- "An owner is short while its open shortfall is above 0"
abbrev pub is_short : Book → ℕ → Bool
is_short book owner = ltb 0 (open_shortfall book owner)

-- "the fund left is both surpluses", where "Each surplus becomes a signed balance" (Wish 6)
abbrev pub fund_left : Book → ℤ
fund_left book = book.monthbalance +ℤ book.yearbalance

-- all shortfalls together
abbrev pub all_shortfalls : Book → ℕ
all_shortfalls book = total book.monthshort + total book.yearshort

-- "Collected may run from -4,000,000,000 up to the old top", "4,000,000,000,000"
abbrev pub least_collected : ℤ
least_collected = neg_ℤ (pos 4_000_000_000)

abbrev pub most_collected : ℤ
most_collected = pos 4_000_000_000_000

-- "4,004,000,000,000", the most that one hour can bring: the largest amount collected and the most charges
abbrev pub most_brought : ℤ
most_brought = most_collected +ℤ pos most_cents

-- a balance does not "lie between hours times -4,000,000,000 and hours times 4,004,000,000,000"
abbrev pub is_out_of_bounds : ℕ → ℤ → Bool
is_out_of_bounds hours balance =
    int_lt balance (pos hours *ℤ least_collected) || int_lt (pos hours *ℤ most_brought) balance

-- "the last closed month's end (0 if none)"; month ends "come from that year", the book's
abbrev pub last_end : ℕ → ℕ → ℕ
last_end year zero = 0
last_end year (suc month) = month_end year month

-- "hours not between the last closed month's end (0 if none) and the next one's, both included", while there is a next one
abbrev pub off_month : ℕ → ℕ → ℕ → Bool
off_month year hours months =
    ltb months months_in_year && not (leb (last_end year months) hours && leb hours (month_end year months))

-- the cases of 1 by year, hours, months and mark alone: "hours above 8,760; months closed above 12; hours not between ..; hours not 8,760
-- with 12 months closed; ended with months below 12", where "the top hour .. come[s] from that year"
unfoldable pub out_of_step : ℕ → ℕ → ℕ → Bool → Bool
out_of_step year hours months ended =
    ltb (hours_in_year year) hours
    || ltb months_in_year months
    || off_month year hours months
    || (eqb months months_in_year && not (eqb hours (hours_in_year year)))
    || (ended && ltb months months_in_year)

-- 1, spoiled book: those cases, and "all shortfalls together above 4,000,000,000"; "each balance, and the two together", out of bounds
unfoldable pub is_spoiled : Book → Bool
is_spoiled book =
    out_of_step book.year book.hours book.months book.ended
    || ltb most_cents (all_shortfalls book)
    || is_out_of_bounds book.hours book.monthbalance
    || is_out_of_bounds book.hours book.yearbalance
    || is_out_of_bounds book.hours (fund_left book)
