-- Lists of events on books laid out by owner, and what carries across to them: "so that the closing sums over a list of events carry across"
-- (Wish 11).
-- Assumes nothing.
use Rattle.std.specs.Prelude.{ℕ, ◌+◌, ◌<◌, ◌≡◌, List, [], ◌∷◌, map, ℤ}
use Rattle.numbers.specs.Limits.{owners}
use Rattle.settlement.specs.declared.Book.{Book as ByOwner}
use Rattle.settlement.specs.declared.Settled.{Settled as Given}
use Rattle.settlement.specs.Book.{fresh, open_shortfall}
use Rattle.settlement.specs.ByOwner.{month_cell, year_cell, read_off, laid_out, in_numbers, AnsweredByOwner}
use Rattle.settlement.specs.Events.{Call}
use Rattle.settlement.specs.Ledger.{Entry, asked, book_at, ledger_of}
use Rattle.settlement.specs.Claim.{Claim}

-- an entry: a call, the lines lent with it, what the library gives, and the lines after it
pub record EntryByOwner : Type 0 where
  pub call : Call
  pub lent : List ℤ
  pub given : Given
  pub written : List ℤ

-- the book after a list of entries, newest first, which began with the fresh book of this year
unfoldable pub kept_at : ℕ → List EntryByOwner → ByOwner
kept_at year [] = laid_out (fresh year)
kept_at year (entry ∷ past) = entry.given.book

-- each call is answered, as the events' contracts say, on the book that the entries below it gave
abbrev pub IsListByOwner : ℕ → List EntryByOwner → Type 0
IsListByOwner year [] = Unit {0}
IsListByOwner year (entry ∷ past) =
    AnsweredByOwner entry.call (kept_at year past) entry.lent entry.given.outcome entry.given.book entry.written
    × IsListByOwner year past

-- the entries of the rules, "with the old book's cells read off the new"
abbrev pub entry_off : EntryByOwner → Entry
entry_off entry =
    record { call = entry.call; lent = entry.lent; result = in_numbers entry.given; written = entry.written }

-- all entries, read off
abbrev pub ledger_off : List EntryByOwner → List Entry
ledger_off list = map entry_off list

-- what carries across to a list by owner
pub record CarriesAcross (year : ℕ) (list : List EntryByOwner) : Type 0 where
  -- what is read off is the ledger of those calls, by the rules
  pub ledger : ledger_off list ≡ ledger_of year (map asked (ledger_off list))
  -- so the claim holds of it, all closing sums among its parts
  pub claim : Claim year (ledger_off list)
  -- the book of the rules after it is read off the book that is kept, which is that book laid out
  pub read : book_at year (ledger_off list) ≡ read_off (kept_at year list)
  pub laid : kept_at year list ≡ laid_out (book_at year (ledger_off list))
  -- so an owner's open shortfall is its two cells, side by side
  pub open_cells : (owner : ℕ) → owner < owners
      → open_shortfall (book_at year (ledger_off list)) owner ≡ month_cell (kept_at year list) owner + year_cell (kept_at year list) owner
