-- The claim over every list of calls from a fresh book, for every year: "Lists of events are judged for every such year" (Wish 7). All but
-- the open shortfalls and the fund left is read from the calls and the lines written; the entries below an entry are its past.
-- Assumes nothing.
use Rattle.std.specs.Prelude.{ℕ, ◌+◌, ◌≤◌, ◌<◌, ◌≡◌, true, false, ◌⊎◌, List, [], ◌∷◌, length, ℤ, pos, negsuc, ◌+ℤ◌, ◌-ℤ◌, ◌≤ℤ◌}
use Rattle.numbers.specs.Limits.{owners}
use Rattle.numbers.specs.Lists.{total, list_below}
use Rattle.split.specs.Split.{WithinACent}
use Rattle.settlement.specs.Book.{open_shortfall, is_short, fund_left}
use Rattle.settlement.specs.Events.{Call, hour_call, month_end_call, year_end_call, refusal, lines}
use Rattle.settlement.specs.Ledger.{Entry, book_at, sum_over, sum_since, balance_over, balance_since, hour_count, month_end_count, year_end_count, positive_target, credit, hour_credit, charge, collection, of_all}

-- "Owed to it, and so its want": at an hour its positive target; at a month end its positive targets less its credits in the accepted
-- hours since the last accepted month end, or since the start; at a year end the same over all accepted hours and month ends before
abbrev pub IsOwed : ℕ → List Entry → Entry → Call → ℕ → ℕ → Type 0
IsOwed year past entry (hour_call file prices collected) owner want = want ≡ positive_target year owner past entry
IsOwed year past entry month_end_call owner want =
    want + sum_since (hour_credit owner) past ≡ sum_since (positive_target year owner) past
IsOwed year past entry year_end_call owner want = want + sum_over (credit owner) past ≡ sum_over (positive_target year owner) past

-- "F is at an hour the amount collected plus all charges; at the other two, over those same calls and all owners, collected plus
-- charges less credits", in whole numbers of either sign
abbrev pub IsFund : List Entry → Entry → Call → ℤ → Type 0
IsFund past entry (hour_call file prices collected) fund = fund ≡ collection past entry +ℤ pos (of_all charge past entry)
IsFund past entry month_end_call fund =
    fund ≡ balance_since collection past +ℤ pos (sum_since (of_all charge) past) -ℤ pos (sum_since (of_all hour_credit) past)
IsFund past entry year_end_call fund =
    fund ≡ balance_over collection past +ℤ pos (sum_over (of_all charge) past) -ℤ pos (sum_over (of_all credit) past)

-- "less than one cent from the exact share", for any F: where it is negative "An owner's exact share is then 0, and only a payment of 0 is
-- less than one cent from it" (Wish 6)
abbrev pub IsNear : ℤ → ℕ → ℕ → ℕ → Type 0
IsNear (pos fund) demand want credit = WithinACent fund demand want credit
IsNear (negsuc below) demand want credit = credit ≡ 0

-- an accepted call: "The accepted call reports this F and D, and they and the wants give the exact share"; each credit, zero included,
-- is at most its want and less than one cent from the exact share
pub record Shared (year : ℕ) (past : List Entry) (entry : Entry) : Type 0 where
  pub want : ℕ → ℕ
  pub owed : (owner : ℕ) → owner < owners → IsOwed year past entry entry.call owner (want owner)
  pub fund_is : IsFund past entry entry.call entry.result.fund
  pub demand_is : entry.result.demand ≡ total (list_below want owners)
  pub at_most : (owner : ℕ) → owner < owners → credit owner past entry ≤ want owner
  pub near : (owner : ℕ) → owner < owners → IsNear entry.result.fund entry.result.demand (want owner) (credit owner past entry)

-- at each entry
pub record Sound (year : ℕ) (past : List Entry) (entry : Entry) : Type 0 where
  -- "In such a list 1 never comes", and 15 neither
  pub never_spoiled : entry.result.refusal ≡ 1 → ⊥
  pub never_outside : entry.result.refusal ≡ 15 → ⊥
  -- "A book opens with its year and keeps it"
  pub same_year : (book_at year past).year ≡ year
  -- "hours settled and months closed count the accepted hours and month ends before"
  pub hours : (book_at year past).hours ≡ sum_over hour_count past
  pub months : (book_at year past).months ≡ sum_over month_end_count past
  -- "the book is ended exactly if a year end was accepted before"
  pub ended_after : (book_at year past).ended ≡ true → 0 < sum_over year_end_count past
  pub ended_only : 0 < sum_over year_end_count past → (book_at year past).ended ≡ true
  -- "each owner's open shortfall before a call is its positive targets less its credits so far"
  pub open_before : (owner : ℕ) → owner < owners
      → open_shortfall (book_at year past) owner + sum_over (credit owner) past ≡ sum_over (positive_target year owner) past
  -- "Accepted are exactly the calls that no refusal case covers": the table's number for the book it was given is the one reported
  pub by_table : entry.result.refusal ≡ refusal entry.call (book_at year past) (length entry.lent)
  -- "and their lines are those of the rules above"
  pub by_rules : entry.result.refusal ≡ 0 → entry.written ≡ lines entry.call (book_at year past)
  -- "Lent lines stay untouched by a refusal", and so does the book
  pub untouched : (entry.result.refusal ≡ 0 → ⊥) → (entry.written ≡ entry.lent) × (entry.result.book ≡ book_at year past)
  pub shared : entry.result.refusal ≡ 0 → Shared year past entry

abbrev pub SoundAtEach : ℕ → List Entry → Type 0
SoundAtEach year [] = Unit {0}
SoundAtEach year (entry ∷ past) = Sound year past entry × SoundAtEach year past

-- demand 3, one claim about the whole list
pub record Claim (year : ℕ) (ledger : List Entry) : Type 0 where
  pub sound : SoundAtEach year ledger
  -- the book keeps its year to the end
  pub keeps_year : (book_at year ledger).year ≡ year
  -- "collected plus charges equals credits plus the fund left", where "The fund in the closing equation may be negative" (Wish 6)
  pub closes : balance_over collection ledger +ℤ pos (sum_over (of_all charge) ledger)
      ≡ pos (sum_over (of_all credit) ledger) +ℤ fund_left (book_at year ledger)
  -- "each owner's positive targets equal its credits plus its open shortfall"
  pub owner_closes : (owner : ℕ) → owner < owners
      → sum_over (positive_target year owner) ledger ≡ sum_over (credit owner) ledger + open_shortfall (book_at year ledger) owner
  -- "an ended year shows a fund of at most zero or no owner short" (Wish 6)
  pub year_closes : 0 < sum_over year_end_count ledger
      → (fund_left (book_at year ledger) ≤ℤ pos 0) ⊎ ((owner : ℕ) → owner < owners → is_short (book_at year ledger) owner ≡ false)
