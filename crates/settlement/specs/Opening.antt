-- Opening a book: what it gives, for any number as a year.
-- Assumes nothing.
use Rattle.std.specs.Prelude.{ℕ}
use Rattle.numbers.specs.Refusals.{answered}
use Rattle.settlement.specs.declared.Opened.{Opened}
use Rattle.settlement.specs.Book.{year_refusal, opened}
use Rattle.settlement.specs.ByOwner.{laid_out}

-- "A book opens with its year"; "opening a book gives it too, with a book all 0, year included"
abbrev pub book_opening : ℕ → Opened
book_opening year = record { book = laid_out (opened year); outcome = answered (year_refusal year) 0 tt }
