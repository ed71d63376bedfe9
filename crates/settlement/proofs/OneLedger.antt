-- A list of calls has exactly one ledger: the one that is worked out from the calls.
-- Assumes nothing.
use mathlib.Core.Path.{◌≡◌, refl, ap, ap₂, ◌∙◌}
use mathlib.Core.List.{List, [], ◌∷◌, map}
use Rattle.settlement.specs.Book.{fresh}
use Rattle.settlement.specs.Ledger.{Entry, Asked, asked, book_at, entry_on, ledger_of, IsLedger}
use Prim.Native.Nat.{ℕ}

-- ---- one call more

pub book_at_start : (year : ℕ) → book_at year [] ≡ fresh year
unfolding book_at
book_at_start year = refl

pub book_at_entry : (year : ℕ) (entry : Entry) (past : List Entry) → book_at year (entry ∷ past) ≡ entry.result.book
unfolding book_at
book_at_entry year entry past = refl

pub ledger_none : (year : ℕ) → ledger_of year [] ≡ []
unfolding ledger_of
ledger_none year = refl

pub ledger_next : (year : ℕ) (call : Asked) (before : List Asked) → ledger_of year (call ∷ before) ≡ entry_on (book_at year (ledger_of year before)) call ∷ ledger_of year before
unfolding ledger_of
ledger_next year call before = refl

-- ---- the ledger of a list

-- it is a ledger
pub is_ledger : (year : ℕ) (calls : List Asked) → IsLedger year (ledger_of year calls)
unfolding ledger_of
is_ledger year [] = tt
is_ledger year (call ∷ before) = (record { gives = refl; writes = refl }, is_ledger year before)

-- of just these calls in that order
pub its_calls : (year : ℕ) (calls : List Asked) → map asked (ledger_of year calls) ≡ calls
unfolding ledger_of
its_calls year [] = refl
its_calls year (call ∷ before) = ap (call ∷◌) (its_calls year before)

-- a ledger is worked out from its calls
worked_out : (year : ℕ) (ledger : List Entry) → IsLedger year ledger → ledger ≡ ledger_of year (map asked ledger)
unfolding ledger_of
worked_out year [] tt = refl
worked_out year (entry ∷ past) answered =
    let below = worked_out year past answered.1 in
    let here : entry ≡ entry_on (book_at year past) (asked entry) =
    λ i. record { call = entry.call; lent = entry.lent; result = answered.0.gives i; written = answered.0.writes i } in
    ap₂ (λ (e : Entry) (l : List Entry). e ∷ l) (here ∙ ap (λ (l : List Entry). entry_on (book_at year l) (asked entry)) below) below

-- so every ledger of these calls is that one
pub only_ledger : (year : ℕ) (calls : List Asked) (ledger : List Entry) → IsLedger year ledger → map asked ledger ≡ calls → ledger ≡ ledger_of year calls
only_ledger year calls ledger answered is = worked_out year ledger answered ∙ ap (ledger_of year) is
