-- The last line of a run that did not stop prints the fund left, and no other line has any of it.
-- Assumes nothing.
use Prim.Native.Nat.{ℕ, zero, suc}
use mathlib.Core.Path.{◌≡◌, refl, ap, ◌∙◌}
use mathlib.Core.List.{List, [], ◌∷◌, ◌++◌}
use native.Mathlib.Omega.{arith}
use lib.ListN.{length, get_or}
use lib.IntN.{ℤ, pos, negsuc, ◌+ℤ◌}
use borrow.Author.Differences.{ints}
use Rattle.settlement.specs.Book.{fund_left}
use Rattle.settlement.specs.Ledger.{Entry}
use Rattle.statement_text.specs.Text.{Line, owner_line, owner_lines, lines_below, event_lines}
use Rattle.statement_text.proofs.EventLines.{event_below, below_none, below_next, no_line, credit_line, charge_line}
use Rattle.settlement_run.specs.Run.{Part, tag_of, last_line, all_lines}
use Rattle.settlement_run.specs.PrintedClaim.{fund_in, over_lines, balance_lines, number_in, ledger_lines}
use Rattle.settlement_run.proofs.Parts.{by_refusal}
use Rattle.settlement_run.proofs.PrintedSums.{lines_of, entry_lines}

-- ---- lines in a row

balance_none : (part : Line → ℤ) → balance_lines part [] ≡ pos 0
unfolding over_lines
balance_none part = refl

balance_append : (part : Line → ℤ) (lines more : List Line)
    → balance_lines part (lines ++ more) ≡ balance_lines part lines +ℤ balance_lines part more
unfolding over_lines
balance_append part [] more = omega (arith, ints)
balance_append part (line ∷ rest) more = omega (arith, ints, balance_append part rest more)

balance_one : (part : Line → ℤ) (line : Line) → balance_lines part (line ∷ []) ≡ part line
unfolding over_lines
balance_one part line = omega (arith, ints)

-- ---- no line of an event has any of the fund

no_fund_of_owner : (tag number owner : ℕ) (cents : ℤ) → balance_lines fund_in (owner_lines tag number owner cents) ≡ pos 0
unfolding fund_in
no_fund_of_owner tag number owner (pos zero) = ap (balance_lines fund_in) (no_line tag number owner) ∙ balance_none fund_in
no_fund_of_owner tag number owner (pos (suc n)) =
    ap (balance_lines fund_in) (credit_line tag number owner n) ∙ balance_one fund_in (owner_line tag number owner (pos (suc n)))
no_fund_of_owner tag number owner (negsuc n) =
    ap (balance_lines fund_in) (charge_line tag number owner n) ∙ balance_one fund_in (owner_line tag number owner (negsuc n))

no_fund : (tag number : ℕ) (cents : List ℤ) (n : ℕ) → balance_lines fund_in (lines_below tag number cents n) ≡ pos 0
no_fund tag number cents zero = ap (balance_lines fund_in) (below_none tag number cents) ∙ balance_none fund_in
no_fund tag number cents (suc n) =
    let below = lines_below tag number cents n in
    let last = owner_lines tag number n (get_or cents n (pos 0)) in
    omega
    (arith, ints, ap (balance_lines fund_in) (below_next tag number cents n), balance_append fund_in below last, no_fund tag number cents n, no_fund_of_owner tag number n (get_or cents n (pos 0)))

no_fund_of_event : (tag number : ℕ) (cents : List ℤ) → balance_lines fund_in (event_lines tag number cents) ≡ pos 0
no_fund_of_event tag number cents =
    ap (balance_lines fund_in) (event_below tag number cents) ∙ no_fund tag number cents (length cents)

no_fund_of_ledger : (ledger : List Entry) → balance_lines fund_in (ledger_lines ledger) ≡ pos 0
unfolding ledger_lines
no_fund_of_ledger [] = balance_none fund_in
no_fund_of_ledger (entry ∷ past) =
    omega (arith, ints, balance_append fund_in (ledger_lines past) (entry_lines past entry), no_fund_of_ledger past, here)
  where
    here : balance_lines fund_in (entry_lines past entry) ≡ pos 0
    here =
        by_refusal (λ (lines : List Line). balance_lines fund_in lines ≡ pos 0) entry.result.refusal (lines_of past entry) []
        (λ _. no_fund_of_event (tag_of entry.call) (number_in entry.call past) entry.written) (λ _. balance_none fund_in)

-- ---- all lines of a run that prints the lines of a ledger

pub all_fund_lem : (run : Part) (ledger : List Entry) → run.printed ≡ ledger_lines ledger → run.refusal ≡ 0
    → balance_lines fund_in (all_lines run) ≡ fund_left run.book
unfolding fund_in last_line
all_fund_lem run ledger prints on =
    let last = last_line run.refusal run.book in
    let of_last : fund_in last ≡ fund_left run.book = ap (λ (r : ℕ). fund_in (last_line r run.book)) on in
    omega
    (arith, ints, balance_append fund_in run.printed (last ∷ []), ap (balance_lines fund_in) prints, balance_one fund_in last, of_last, no_fund_of_ledger ledger)
