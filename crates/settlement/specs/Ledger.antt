-- The ledger of a list of calls, and what is read from its calls and the lines written.
-- Assumes nothing.
use Rattle.std.specs.Prelude.{ℕ, ◌+◌, List, [], ◌∷◌, length, get_or, ℤ, pos, ◌+ℤ◌}
use Rattle.numbers.specs.Limits.{owners}
use Rattle.numbers.specs.Lists.{total, list_below}
use Rattle.numbers.specs.Refusals.{answer_by}
use Rattle.numbers.specs.Signs.{positive, negative}
use Rattle.target.specs.Target.{target}
use Rattle.settlement.specs.Book.{Book, fresh}
use Rattle.settlement.specs.Events.{Settled, Call, hour_call, month_end_call, year_end_call, settled, lines_after, Answered}

-- an entry: a call, the lines lent with it, its result, and the lines after it
pub record Entry : Type 0 where
  pub call : Call
  pub lent : List ℤ
  pub result : Settled
  pub written : List ℤ

-- what is asked of a call: the call, and the lines lent with it
pub record Asked : Type 0 where
  pub call : Call
  pub lent : List ℤ

abbrev pub asked : Entry → Asked
asked entry = record { call = entry.call; lent = entry.lent }

-- the book after a list of entries, newest first, which began with the fresh book of this year: "The first is handed a fresh book, every later
-- one the book that the call before it gave, refused or not"
unfoldable pub book_at : ℕ → List Entry → Book
book_at year [] = fresh year
book_at year (entry ∷ past) = entry.result.book

-- the entry that a call makes on a book, by the events' definitions alone
abbrev pub entry_on : Book → Asked → Entry
entry_on book asked =
    record {
      call = asked.call;
      lent = asked.lent;
      result = settled asked.call book (length asked.lent);
      written = lines_after asked.call book asked.lent;
    }

-- the ledger of a list of calls, newest first, from a fresh book of this year
unfoldable pub ledger_of : ℕ → List Asked → List Entry
ledger_of year [] = []
ledger_of year (asked ∷ before) = entry_on (book_at year (ledger_of year before)) asked ∷ ledger_of year before

-- a ledger: each entry is answered, as the events' contracts say, on the book that the entries below it gave
abbrev pub IsLedger : ℕ → List Entry → Type 0
IsLedger year [] = Unit {0}
IsLedger year (entry ∷ past) =
    Answered entry.call (book_at year past) entry.lent entry.result entry.written × IsLedger year past

-- ---- what an entry contributes, its past being the entries below it; a refused one contributes nothing

abbrev pub if_accepted : Entry → ℕ → ℕ
if_accepted entry amount = answer_by entry.result.refusal amount 0

-- a number that only an hour, a month end or a year end contributes
abbrev pub at_hour : Call → ℕ → ℕ
at_hour (hour_call file prices collected) amount = amount
at_hour month_end_call amount = 0
at_hour year_end_call amount = 0

abbrev pub at_month_end : Call → ℕ → ℕ
at_month_end (hour_call file prices collected) amount = 0
at_month_end month_end_call amount = amount
at_month_end year_end_call amount = 0

abbrev pub at_year_end : Call → ℕ → ℕ
at_year_end (hour_call file prices collected) amount = 0
at_year_end month_end_call amount = 0
at_year_end year_end_call amount = amount

-- an accepted hour, month end or year end counts 1
unfoldable pub hour_count : List Entry → Entry → ℕ
hour_count past entry = if_accepted entry (at_hour entry.call 1)

unfoldable pub month_end_count : List Entry → Entry → ℕ
month_end_count past entry = if_accepted entry (at_month_end entry.call 1)

unfoldable pub year_end_count : List Entry → Entry → ℕ
year_end_count past entry = if_accepted entry (at_year_end entry.call 1)

-- what the entries contribute, put together, where none is what no entry contributes
unfoldable pub over : {A : Type 0} → A → (A → A → A) → (List Entry → Entry → A) → List Entry → A
over none plus part [] = none
over none plus part (entry ∷ past) = plus (part past entry) (over none plus part past)

-- the same "since the last accepted month end, or since the start"
unfoldable pub since : {A : Type 0} → A → (A → A → A) → (List Entry → Entry → A) → List Entry → A
since none plus part [] = none
since none plus part (entry ∷ past) =
    answer_by (month_end_count past entry) (plus (part past entry) (since none plus part past)) none

-- the sum of what the entries contribute, of counts and cents and of cents of either sign
abbrev pub sum_over : (List Entry → Entry → ℕ) → List Entry → ℕ
sum_over = over 0 ◌+◌

abbrev pub sum_since : (List Entry → Entry → ℕ) → List Entry → ℕ
sum_since = since 0 ◌+◌

abbrev pub balance_over : (List Entry → Entry → ℤ) → List Entry → ℤ
balance_over = over (pos 0) ◌+ℤ◌

abbrev pub balance_since : (List Entry → Entry → ℤ) → List Entry → ℤ
balance_since = since (pos 0) ◌+ℤ◌

-- "an owner's positive target is its target, or 0 if that is negative", in the year of the list and in the hour "whose number is the count
-- of accepted hours before it"
abbrev pub call_positive : Call → ℕ → ℕ → ℕ → ℕ
call_positive (hour_call file prices collected) year hour owner = positive (target year file prices hour owner)
call_positive month_end_call year hour owner = 0
call_positive year_end_call year hour owner = 0

unfoldable pub positive_target : ℕ → ℕ → List Entry → Entry → ℕ
positive_target year owner past entry = if_accepted entry (call_positive entry.call year (sum_over hour_count past) owner)

-- the line written for an owner
abbrev pub line_of : Entry → ℕ → ℤ
line_of entry owner = get_or entry.written owner (pos 0)

-- "its credit is its line, or 0 if that is negative"
unfoldable pub credit : ℕ → List Entry → Entry → ℕ
credit owner past entry = if_accepted entry (positive (line_of entry owner))

-- a credit in an accepted hour
unfoldable pub hour_credit : ℕ → List Entry → Entry → ℕ
hour_credit owner past entry = if_accepted entry (at_hour entry.call (positive (line_of entry owner)))

-- "its charge is its line, sign dropped, if that is negative, else 0", at an accepted hour
unfoldable pub charge : ℕ → List Entry → Entry → ℕ
charge owner past entry = if_accepted entry (at_hour entry.call (negative (line_of entry owner)))

-- the amount that an accepted hour collected, of either sign
abbrev pub call_amount : Call → ℤ
call_amount (hour_call file prices collected) = collected
call_amount month_end_call = pos 0
call_amount year_end_call = pos 0

unfoldable pub collection : List Entry → Entry → ℤ
collection past entry = answer_by entry.result.refusal (call_amount entry.call) (pos 0)

-- the same of all owners together
unfoldable pub of_all : (ℕ → List Entry → Entry → ℕ) → List Entry → Entry → ℕ
of_all part past entry = total (list_below (λ owner. part owner past entry) owners)
