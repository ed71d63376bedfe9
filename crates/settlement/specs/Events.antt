-- The three events of a book: their wants, F, D, lines, the book after them, when they are due, and their refusals.
-- Assumes nothing.
use Rattle.std.specs.Prelude.{ℕ, ◌+◌, ◌-◌, ◌≡◌, Bool, true, not, ◌||◌, List, [], ◌∷◌, ◌++◌, leb, ltb, length, get_or, replicate, ℤ, pos, negsuc, ◌+ℤ◌, int_lt, Result, Ok, Err}
use Rattle.numbers.specs.Limits.{owners, most_cents}
use Rattle.numbers.specs.Lists.{total, list_below}
use Rattle.numbers.specs.declared.refusal.Refusal.{Refusal}
use Rattle.numbers.specs.Refusals.{Row, ◌if◌, first_refusal, answer_by, number_in, record_in}
use Rattle.numbers.specs.Signs.{positive, negative}
use Rattle.calendar.specs.Almanac.{is_outside}
use Rattle.calendar.specs.Year.{hours_in_year, months_in_year, is_month_end}
use Rattle.rights.specs.Faults.{fault_rows, faulty_record}
use Rattle.split.specs.declared.Limits.{Limits}
use Rattle.split.specs.Split.{limits_of, payments, left}
use Rattle.target.specs.Target.{is_wrong_lines, lent_rows, targets}
use Rattle.settlement.specs.declared.Event.{Event}
use Rattle.settlement.specs.declared.Event.TheVariants.{Hour, MonthEnd, YearEnd}
use Rattle.settlement.specs.declared.Funding.{Funding}
use Rattle.settlement.specs.Book.{Book, least_collected, most_collected, all_shortfalls, is_spoiled}

-- a call: an hour with its rights, prices and the amount collected; a month end; a year end
pub data Call : Type 0 where
  hour_call : List ℕ → List ℤ → ℤ → Call
  month_end_call : Call
  year_end_call : Call

abbrev pub event_of : Call → Event
event_of (hour_call file prices collected) = Hour
event_of month_end_call = MonthEnd
event_of year_end_call = YearEnd

-- ---- wants, F and D

-- the targets of the book's next hour, in its year, and an owner's among 64 targets
abbrev pub next_targets : List ℕ → List ℤ → Book → List ℤ
next_targets file prices book = targets book.year file prices book.hours

abbrev pub target_of : List ℤ → ℕ → ℤ
target_of targets owner = get_or targets owner (pos 0)

-- "wants are the positive targets"
unfoldable pub hour_wants : List ℤ → List ℕ
hour_wants targets = list_below (λ owner. positive (target_of targets owner)) owners

-- "all charges (the negative targets, sign dropped)"
unfoldable pub hour_charges : List ℤ → ℕ
hour_charges targets = total (list_below (λ owner. negative (target_of targets owner)) owners)

-- "F is the amount collected plus all charges"
abbrev pub hour_fund : ℤ → List ℤ → ℤ
hour_fund collected targets = collected +ℤ pos (hour_charges targets)

-- at an hour those; "wants are the month shortfalls"; "the same from the year's cells"
unfoldable pub wants : Call → Book → List ℕ
wants (hour_call file prices collected) book = hour_wants (next_targets file prices book)
wants month_end_call book = book.monthshort
wants year_end_call book = book.yearshort

-- at an hour that; "F is the month surplus"; "the same from the year's cells"
unfoldable pub fund : Call → Book → ℤ
fund (hour_call file prices collected) book = hour_fund collected (next_targets file prices book)
fund month_end_call book = book.monthbalance
fund year_end_call book = book.yearbalance

-- D, the sum of the wants
unfoldable pub demand : Call → Book → ℕ
demand call book = total (wants call book)

-- "our own limits", with which an event splits: all owners, and as many cents as wants may come to
abbrev pub hall : Limits
hall = limits_of owners most_cents

-- what an event pays of its wants, and what it leaves of F
pub record Payout : Type 0 where
  pub payments : List ℕ
  pub left : ℤ

-- for any F: the split of a fund of at least 0; "If an event's F is negative, no one is paid, every want carries, and F itself goes where
-- what is left would have gone" (Wish 6)
unfoldable pub payout : ℤ → List ℕ → Payout
payout (pos fund) wants = record { payments = payments fund wants; left = pos (left fund wants) }
payout (negsuc below) wants = record { payments = replicate (length wants) 0; left = negsuc below }

-- what F pays of the wants, and what it leaves
abbrev pub paid : Call → Book → List ℕ
paid call book = (payout (fund call book) (wants call book)).payments

abbrev pub left_over : Call → Book → ℤ
left_over call book = (payout (fund call book) (wants call book)).left

-- ---- lines

-- "an owner's line is its credit, or its negative target, or 0"
abbrev pub hour_line : ℤ → ℕ → ℤ
hour_line (pos n) credit = pos credit
hour_line (negsuc n) credit = negsuc n

unfoldable pub hour_lines : List ℤ → List ℕ → List ℤ
hour_lines targets payments = list_below (λ owner. hour_line (target_of targets owner) (get_or payments owner 0)) owners

-- "lines are the payments"
unfoldable pub payment_lines : List ℕ → List ℤ
payment_lines payments = list_below (λ owner. pos (get_or payments owner 0)) owners

unfoldable pub lines : Call → Book → List ℤ
lines (hour_call file prices collected) book =
    hour_lines (next_targets file prices book) (paid (hour_call file prices collected) book)
lines month_end_call book = payment_lines (paid month_end_call book)
lines year_end_call book = payment_lines (paid year_end_call book)

-- ---- the book after an event

-- "Unpaid want", for each owner
unfoldable pub unpaid_of : List ℕ → List ℕ → List ℕ
unpaid_of wants payments = list_below (λ owner. get_or wants owner 0 - get_or payments owner 0) owners

-- "is added to the owner's" cell
unfoldable pub added_to : List ℕ → List ℕ → List ℕ
added_to cells more = list_below (λ owner. get_or cells owner 0 + get_or more owner 0) owners

-- the book after an hour, with these month shortfalls: "what is left to the month surplus"
abbrev pub book_after_hour : Book → List ℕ → ℤ → Book
book_after_hour book month_cells rest =
    record {
      year = book.year;
      hours = book.hours + 1;
      months = book.months;
      ended = book.ended;
      monthshort = month_cells;
      yearshort = book.yearshort;
      monthbalance = book.monthbalance +ℤ rest;
      yearbalance = book.yearbalance;
    }

-- the book after a month end, with these year shortfalls: "what is left to the year surplus; the month's cells become 0"
abbrev pub book_after_month : Book → List ℕ → ℤ → Book
book_after_month book year_cells rest =
    record {
      year = book.year;
      hours = book.hours;
      months = book.months + 1;
      ended = book.ended;
      monthshort = replicate owners 0;
      yearshort = year_cells;
      monthbalance = pos 0;
      yearbalance = book.yearbalance +ℤ rest;
    }

-- the book after a year end: "Unpaid wants and what is left stay as the year's cells, and the book is ended"
abbrev pub book_after_year : Book → List ℕ → ℤ → Book
book_after_year book unpaid_cells rest =
    record {
      year = book.year;
      hours = book.hours;
      months = book.months;
      ended = true;
      monthshort = book.monthshort;
      yearshort = unpaid_cells;
      monthbalance = book.monthbalance;
      yearbalance = rest;
    }

-- the book after an hour with this fund and these wants: "Unpaid want is added to the owner's month shortfall"
abbrev pub hour_book : Book → ℤ → List ℕ → Book
hour_book book fund wants =
    book_after_hour book (added_to book.monthshort (unpaid_of wants (payout fund wants).payments)) (payout fund wants).left

-- the book after an accepted call: "Unpaid wants are added to the year shortfalls"; "Unpaid wants .. stay as the year's cells"
unfoldable pub book_after : Call → Book → Book
book_after (hour_call file prices collected) book =
    hour_book book (fund (hour_call file prices collected) book) (wants (hour_call file prices collected) book)
book_after month_end_call book =
    book_after_month book (added_to book.yearshort (unpaid_of (wants month_end_call book) (paid month_end_call book)))
    (left_over month_end_call book)
book_after year_end_call book =
    book_after_year book (unpaid_of (wants year_end_call book) (paid year_end_call book)) (left_over year_end_call book)

-- ---- refusals

-- 3: "hour while a month end is due or after 8,760; month end unless the hours stand at the next month's end; year end before 12
-- months", with the month ends and the top hour of the book's year
unfoldable pub is_out_of_turn : Event → Book → Bool
is_out_of_turn Hour book = is_month_end book.year book.hours book.months || leb (hours_in_year book.year) book.hours
is_out_of_turn MonthEnd book = not (is_month_end book.year book.hours book.months)
is_out_of_turn YearEnd book = ltb book.months months_in_year

-- an event is due exactly if neither 2, "year over", nor 3, "out of turn", covers it
unfoldable pub is_due : Event → Book → Bool
is_due event book = not (book.ended || is_out_of_turn event book)

-- 6: "Collected may run from -4,000,000,000 up to the old top, and 6 moves with it" (Wish 6)
abbrev pub is_wild_amount : ℤ → Bool
is_wild_amount collected = int_lt collected least_collected || int_lt most_collected collected

-- the rows that every event has: 15 "before any other check", then 1, 2, 3, and 4 for its lines
unfoldable pub event_rows : Event → Book → ℕ → List Row
event_rows event book places =
    (15 if is_outside book.year)
    ∷ (1 if is_spoiled book)
    ∷ (2 if book.ended) ∷ (3 if is_out_of_turn event book) ∷ (4 if is_wrong_lines places) ∷ []

-- the rows of an hour's rights, prices and amount in a year: 4 to 8
unfoldable pub input_rows : ℕ → List ℕ → List ℤ → ℤ → List Row
input_rows year file prices collected =
    lent_rows file prices ++ ((6 if is_wild_amount collected) ∷ fault_rows year (length prices) file)

-- 9, "positive targets, or charges, above 4,000,000,000 in total"; 10, "all shortfalls after the hour would pass 4,000,000,000"
abbrev pub sum_rows : ℕ → ℕ → ℕ → List Row
sum_rows wants charges shortfalls =
    (9 if ltb most_cents wants) ∷ (9 if ltb most_cents charges) ∷ (10 if ltb most_cents shortfalls) ∷ []

-- the rows of an hour's size, by its F, wants and charges
unfoldable pub size_rows : Book → ℤ → List ℕ → ℕ → List Row
size_rows book fund wants charges = sum_rows (total wants) charges (all_shortfalls (hour_book book fund wants))

-- the rows that an event has beside those of every event: an hour alone has some
unfoldable pub own_rows : Call → Book → List Row
own_rows (hour_call file prices collected) book =
    input_rows book.year file prices collected
    ++ size_rows book (fund (hour_call file prices collected) book) (wants (hour_call file prices collected) book)
    (hour_charges (next_targets file prices book))
own_rows month_end_call book = []
own_rows year_end_call book = []

-- the refusal of a call on a book, with so many lines lent
unfoldable pub refusal : Call → Book → ℕ → ℕ
refusal call book places = first_refusal (event_rows (event_of call) book places ++ own_rows call book)

-- the record number of a result, on a book of this year: in an hour's 7 and 8 "the lowest one with that fault" (Wish 3), else 0
unfoldable pub record_of : Call → ℕ → ℕ → ℕ
record_of (hour_call file prices collected) year number = faulty_record year (length prices) file number
record_of month_end_call year number = 0
record_of year_end_call year number = 0

-- ---- what an event gives, for any book and any lent lines

-- "A result has the refusal number (0 if accepted), a record number, F, D and the book"
pub record Settled : Type 0 where
  pub refusal : ℕ
  pub faulty : ℕ
  pub fund : ℤ
  pub demand : ℕ
  pub book : Book

-- the result of a call that answers F and D, or a refusal, and gives a book
abbrev pub result_of : Result Funding Refusal → Book → Settled
result_of (Ok funding) book = record { refusal = 0; faulty = 0; fund = funding.fund; demand = funding.demand; book = book }
result_of (Err refusal) book =
    record { refusal = number_in refusal; faulty = record_in refusal; fund = pos 0; demand = 0; book = book }

-- "the refusal number (0 if accepted), a record number, F, D and the book; when refused, the book is the one given, F and D are 0, and the
-- record number is 0 except in 7 and 8"
abbrev pub settled : Call → Book → ℕ → Settled
settled call book places =
    record {
      refusal = refusal call book places;
      faulty = record_of call book.year (refusal call book places);
      fund = answer_by (refusal call book places) (fund call book) (pos 0);
      demand = answer_by (refusal call book places) (demand call book) 0;
      book = answer_by (refusal call book places) (book_after call book) book;
    }

-- "Lent lines .. stay untouched by a refusal"
abbrev pub lines_after : Call → Book → List ℤ → List ℤ
lines_after call book lent = answer_by (refusal call book (length lent)) (lines call book) lent

-- what an event promises: its result, and the lent lines after it
pub record Answered (call : Call) (book : Book) (lent : List ℤ) (result : Settled) (after : List ℤ) : Type 0 where
  pub gives : result ≡ settled call book (length lent)
  pub writes : after ≡ lines_after call book lent
