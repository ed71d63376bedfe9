-- The book as the library keeps it, its shortfalls laid out by owner: how the book of the rules is read off it and laid out in it, and what
-- an event promises of it (Wish 11).
-- Assumes nothing.
use Rattle.std.specs.Prelude.{ℕ, ◌+◌, ◌*◌, ◌/◌, ◌%◌, ◌≡◌, cond, List, eqb, length, get_or, ℤ, Result}
use Rattle.numbers.specs.Limits.{owners}
use Rattle.numbers.specs.Lists.{list_below}
use Rattle.numbers.specs.declared.refusal.Refusal.{Refusal}
use Rattle.settlement.specs.declared.Book.{Book as ByOwner}
use Rattle.settlement.specs.declared.Funding.{Funding}
use Rattle.settlement.specs.declared.Settled.{Settled as Given}
use Rattle.settlement.specs.Book.{Book}
use Rattle.settlement.specs.Events.{Call, hour_call, month_end_call, year_end_call, wants, paid, unpaid_of, Settled, result_of, settled, Answered}

-- "they become one array of 128 cells"
abbrev pub cell_count : ℕ
cell_count = 2 * owners

-- ---- read off

-- "owner i at 2 times i for the month and the next cell for the year": the month's cells are every second one from place 0 on, the year's
-- from place 1 on
unfoldable pub cells_from : List ℕ → ℕ → List ℕ
cells_from shortfalls start = list_below (λ owner. get_or shortfalls (2 * owner + start) 0) owners

-- "the old book's cells read off the new"
abbrev pub read_off : ByOwner → Book
read_off kept =
    record {
      year = kept.year;
      hours = kept.hours;
      months = kept.months;
      ended = kept.ended;
      monthshort = cells_from kept.shortfalls 0;
      yearshort = cells_from kept.shortfalls 1;
      monthbalance = kept.monthbalance;
      yearbalance = kept.yearbalance;
    }

-- ---- laid out

-- the cell at a place: an even one is the month's, the next one the year's
abbrev pub cell_at : List ℕ → List ℕ → ℕ → ℕ
cell_at month year place = cond (eqb (place % 2) 0) (get_or month (place / 2) 0) (get_or year (place / 2) 0)

-- the cells of all owners, in their places
unfoldable pub by_owner : List ℕ → List ℕ → List ℕ
by_owner month year = list_below (cell_at month year) cell_count

-- the book of the rules, "laid out by owner"
abbrev pub laid_out : Book → ByOwner
laid_out book =
    record {
      year = book.year;
      hours = book.hours;
      months = book.months;
      ended = book.ended;
      shortfalls = by_owner book.monthshort book.yearshort;
      monthbalance = book.monthbalance;
      yearbalance = book.yearbalance;
    }

-- ---- one owner's cells

-- "owner i at 2 times i for the month"
abbrev pub month_cell : ByOwner → ℕ → ℕ
month_cell kept owner = get_or kept.shortfalls (2 * owner) 0

-- "and the next cell for the year"
abbrev pub year_cell : ByOwner → ℕ → ℕ
year_cell kept owner = get_or kept.shortfalls (2 * owner + 1) 0

-- what an accepted call leaves unpaid of an owner's want
abbrev pub unpaid_to : Call → Book → ℕ → ℕ
unpaid_to call book owner = get_or (unpaid_of (wants call book) (paid call book)) owner 0

-- an owner's two cells after an accepted call: "Unpaid want is added to the owner's month shortfall"; "Unpaid wants are added to the year
-- shortfalls", "the month's cells become 0"; "Unpaid wants .. stay as the year's cells"
abbrev pub CellsMove : Call → ByOwner → ByOwner → ℕ → Type 0
CellsMove (hour_call file prices collected) kept next owner =
    (month_cell next owner ≡ month_cell kept owner + unpaid_to (hour_call file prices collected) (read_off kept) owner)
    × (year_cell next owner ≡ year_cell kept owner)
CellsMove month_end_call kept next owner =
    (month_cell next owner ≡ 0) × (year_cell next owner ≡ year_cell kept owner + unpaid_to month_end_call (read_off kept) owner)
CellsMove year_end_call kept next owner =
    (month_cell next owner ≡ month_cell kept owner) × (year_cell next owner ≡ unpaid_to year_end_call (read_off kept) owner)

-- ---- what an event promises

-- what the library gives, read off
abbrev pub in_numbers : Given → Settled
in_numbers given = result_of given.outcome (read_off given.book)

-- on any book by owner, for any call and any lent lines: the outcome, the book and the lines after it
pub record AnsweredByOwner (call : Call) (kept : ByOwner) (lent : List ℤ) (outcome : Result Funding Refusal) (next : ByOwner) (after : List ℤ) : Type 0 where
  -- "every event on the new layout gives what the old one gives, with the old book's cells read off the new"
  pub as_ruled : Answered call (read_off kept) lent (result_of outcome (read_off next)) after
  -- and the book after it is the one of the rules, laid out
  pub laid : next ≡ laid_out (settled call (read_off kept) (length lent)).book
