-- A book as the words that a host keeps: counts and mark, shortfalls by owner, balances; in both directions.
-- Assumes nothing.
use Rattle.std.specs.Prelude.{ℕ, Bool, cond, not, ◌&&◌, List, [], ◌∷◌, ltb, eqb, length, get_or, ℤ, pos}
use Rattle.settlement.specs.declared.Book.{Book as ByOwner}
use Rattle.settlement.specs.Book.{Book}
use Rattle.settlement.specs.ByOwner.{cell_count, read_off}

-- the three slices of a book
pub record BookWords : Type 0 where
  pub counts : List ℕ
  pub shortfalls : List ℕ
  pub balances : List ℤ

abbrev pub words_in : List ℕ → List ℕ → List ℤ → BookWords
words_in counts shortfalls balances = record { counts = counts; shortfalls = shortfalls; balances = balances }

-- how many words each has: the hours settled, the months closed, the mark and the year; the book's cells; the month's and the year's
abbrev pub count_words : ℕ
count_words = 4

abbrev pub balance_words : ℕ
balance_words = 2

-- ---- from a book to its words

-- the hours settled, the months closed, the mark: 1 if the book is ended, else 0; and the year
unfoldable pub counts_of : ByOwner → List ℕ
counts_of kept = kept.hours ∷ kept.months ∷ cond kept.ended 1 0 ∷ kept.year ∷ []

-- the month balance, the year balance, each with its sign: "Each surplus becomes a signed balance" (Wish 6)
unfoldable pub balances_of : ByOwner → List ℤ
balances_of kept = kept.monthbalance ∷ kept.yearbalance ∷ []

-- its shortfalls are the book's own cells, "owner i at 2 times i for the month and the next cell for the year" (Wish 11)
abbrev pub words_of : ByOwner → BookWords
words_of kept = words_in (counts_of kept) kept.shortfalls (balances_of kept)

-- ---- from words to the book

abbrev pub mark_in : BookWords → ℕ
mark_in words = get_or words.counts 2 0

abbrev pub year_in : BookWords → ℕ
year_in words = get_or words.counts 3 0

-- the month balance is the balance 0, the year balance the balance 1
abbrev pub balance_in : BookWords → ℕ → ℤ
balance_in words place = get_or words.balances place (pos 0)

-- the book by owner that the words stand for
unfoldable pub kept_from : BookWords → ByOwner
kept_from words =
    record {
      year = year_in words;
      hours = get_or words.counts 0 0;
      months = get_or words.counts 1 0;
      ended = eqb (mark_in words) 1;
      shortfalls = words.shortfalls;
      monthbalance = balance_in words 0;
      yearbalance = balance_in words 1;
    }

-- the book of the rules that they stand for
abbrev pub book_from : BookWords → Book
book_from words = read_off (kept_from words)

-- ---- words that are no book's

-- so many words are no book's
abbrev pub is_no_book : ℕ → ℕ → ℕ → Bool
is_no_book counts shortfalls balances =
    not (eqb counts count_words && eqb shortfalls cell_count && eqb balances balance_words)

abbrev pub is_wrong_count : BookWords → Bool
is_wrong_count words = is_no_book (length words.counts) (length words.shortfalls) (length words.balances)

-- counts of another number of words have no year to look at
abbrev pub has_no_year : BookWords → Bool
has_no_year words = not (eqb (length words.counts) count_words)

-- the mark is neither 0 nor 1
abbrev pub is_wrong_mark : BookWords → Bool
is_wrong_mark words = ltb 1 (mark_in words)
