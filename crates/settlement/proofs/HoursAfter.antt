-- The year of a book, which stays; its hours: none when fresh, one more after an hour, the same after a month end and a year end.
-- Assumes nothing.
use Prim.Native.Nat.{ℕ, ◌+◌}
use mathlib.Core.Path.{◌≡◌, refl}
use mathlib.Core.List.{List}
use lib.IntN.{ℤ}
use Rattle.settlement.specs.Book.{Book, fresh}
use Rattle.settlement.specs.Events.{Call, hour_call, month_end_call, year_end_call, book_after}

pub fresh_hours : (year : ℕ) → (fresh year).hours ≡ 0
unfolding fresh
fresh_hours year = refl

pub fresh_year : (year : ℕ) → (fresh year).year ≡ year
unfolding fresh
fresh_year year = refl

-- "A book opens with its year and keeps it"
pub keeps_year : (call : Call) (book : Book) → (book_after call book).year ≡ book.year
unfolding book_after
keeps_year (hour_call file prices collected) book = refl
keeps_year month_end_call book = refl
keeps_year year_end_call book = refl

pub hour_hours : (file : List ℕ) (prices : List ℤ) (collected : ℤ) (book : Book)
    → (book_after (hour_call file prices collected) book).hours ≡ book.hours + 1
unfolding book_after
hour_hours file prices collected book = refl

pub month_hours : (book : Book) → (book_after month_end_call book).hours ≡ book.hours
unfolding book_after
month_hours book = refl

pub year_hours : (book : Book) → (book_after year_end_call book).hours ≡ book.hours
unfolding book_after
year_hours book = refl
