-- What the calls for hosts give: each is a call of the library with its values written into a report; a write is lent its right as such
-- words. The numbers of words are looked at before the library is called.
-- Assumes nothing.
use Rattle.std.specs.Prelude.{ℕ, ◌+◌, ◌≡◌, Bool, true, cond, not, ◌&&◌, List, [], ◌∷◌, ◌++◌, eqb, get_or, length, ℤ, pos}
use Rattle.numbers.specs.Refusals.{first_refusal, ◌if◌, answer_by}
use Rattle.calendar.specs.Almanac.{is_outside}
use Rattle.calendar.specs.declared.OperatingHour.{OperatingHour}
use Rattle.rights.specs.declared.Right.{Right}
use Rattle.rights.specs.Layout.{reading}
use Rattle.rights.specs.Reader.{is_finished, next_after}
use Rattle.settlement.specs.Events.{Call, refusal, record_of, fund, demand, book_after, lines}
use Rattle.settlement.specs.Book.{opened}
use Rattle.settlement.specs.ByOwner.{laid_out}
use Rattle.pupcopper.specs.BookWords.{BookWords, words_of, book_from, year_in, has_no_year, is_wrong_count, is_wrong_mark}

-- the number of a call: that of its words, or the library's where they have none
abbrev pub number_of : ℕ → ℕ → ℕ
number_of own called = answer_by own called own

-- ---- calls without a book

-- a report, or the right that a write is lent, of another number of words than the call's
abbrev pub is_wrong_report : ℕ → ℕ → Bool
is_wrong_report words report = not (eqb report words)

-- 4, wrong length, and no other number
unfoldable pub report_refusal : ℕ → ℕ → ℕ
report_refusal words report = first_refusal ((4 if is_wrong_report words report) ∷ [])

-- of a call that is given a year: 15 "before any other check"
unfoldable pub dated_refusal : ℕ → ℕ → ℕ → ℕ
dated_refusal year words report = first_refusal ((15 if is_outside year) ∷ (4 if is_wrong_report words report) ∷ [])

-- how many words each report has: an hour's three values; one, the days of a year; the eight fields of a right, which a write is lent too;
-- those and a reader's two; one, a target call's record number; one, what a split leaves
abbrev pub hour_words : ℕ
hour_words = 3

abbrev pub table_words : ℕ
table_words = 1

abbrev pub right_words : ℕ
right_words = 8

abbrev pub step_words : ℕ
step_words = right_words + 2

abbrev pub outcome_words : ℕ
outcome_words = 1

abbrev pub allocation_words : ℕ
allocation_words = 1

-- the calendar call's values: "its day, its month and whether it is peak"
abbrev pub hour_report : OperatingHour → List ℕ
hour_report hour = hour.day ∷ hour.month ∷ cond hour.peak 1 0 ∷ []

-- "the eight fields", in their order in the record
abbrev pub right_report : Right → List ℕ
right_report right =
    right.owner
    ∷ right.source
    ∷ right.sink
    ∷ right.kind
    ∷ right.class
    ∷ right.size
    ∷ right.first
    ∷ right.last
    ∷ []

-- and back: the right that eight words stand for, whatever they are
abbrev pub right_in : List ℕ → Right
right_in words =
    record {
      owner = get_or words 0 0;
      source = get_or words 1 0;
      sink = get_or words 2 0;
      kind = get_or words 3 0;
      class = get_or words 4 0;
      size = get_or words 5 0;
      first = get_or words 6 0;
      last = get_or words 7 0;
    }

-- a reader's step: the fields that it gives, where it then stands, and whether it "says there is none"
abbrev pub step_report : ℕ → List ℕ → ℕ → List ℕ
step_report year file next =
    right_report (reading year file next).right ++ (next_after year file next ∷ cond (is_finished year file next) 1 0 ∷ [])

-- its number: none where it says that there is none, else the read's
abbrev pub step_refusal : ℕ → List ℕ → ℕ → ℕ
step_refusal year file next = cond (is_finished year file next) 0 (reading year file next).refusal

-- ---- the book

-- opening a book: 15 "before any other check"
unfoldable pub open_refusal : ℕ → BookWords → ℕ
open_refusal year words = first_refusal ((15 if is_outside year) ∷ (4 if is_wrong_count words) ∷ [])

-- its words after it: those of the opened book, which with 15 is "a book all 0, year included"; so many words that are no book's stay
abbrev pub words_opened : ℕ → BookWords → BookWords
words_opened year words = cond (is_wrong_count words) words (words_of (laid_out (opened year)))

-- an event's report: the record number, F with its sign, and D
abbrev pub settled_report : ℕ → ℤ → ℕ → List ℤ
settled_report faulty fund demand = pos faulty ∷ fund ∷ pos demand ∷ []

abbrev pub settled_words : ℕ
settled_words = 3

-- what a book's words and a report that should have so many words call for before there is a book: in a call that knows the calendar 15 for
-- its year, "before any other check" but 4 for counts that have none; 4 for the number of the book's words and for the report; 1, spoiled book, for
-- a mark that is neither 0 nor 1
unfoldable pub words_refusal : Bool → ℕ → BookWords → ℕ → ℕ
words_refusal dated places words report =
    first_refusal
    ((4 if has_no_year words)
    ∷ (15 if dated && is_outside (year_in words))
    ∷ (4 if is_wrong_count words)
    ∷ (4 if is_wrong_report places report)
    ∷ (1 if is_wrong_mark words)
    ∷ [])

-- the refusal of an event, with a report of so many words and so many lines lent
unfoldable pub event_refusal : Call → BookWords → ℕ → ℕ → ℕ
event_refusal call words report places = number_of (words_refusal true settled_words words report) (refusal call (book_from words) places)

-- what an event promises to a host: the number, the report, the words of the book and the lines after it, for any words, any report
-- and any lines. Accepted: as the event of the book that the words stand for. Refused: nothing is written but the report
pub record Settles (call : Call) (words : BookWords) (report lent : List ℤ) (given : ℕ) (words_after : BookWords) (report_after lines_after : List ℤ)
    : Type 0 where
  pub number : given ≡ event_refusal call words (length report) (length lent)
  pub reports : report_after
      ≡ cond (is_wrong_report settled_words (length report)) report
      (settled_report (record_of call (year_in words) given) (answer_by given (fund call (book_from words)) (pos 0)) (answer_by given (demand call (book_from words)) 0))
  pub gives_book : words_after ≡ answer_by given (words_of (laid_out (book_after call (book_from words)))) words
  pub writes_lines : lines_after ≡ answer_by given (lines call (book_from words)) lent
