-- The sums over a ledger's lines are those over its entries, and the last line adds the fund alone.
-- Assumes nothing.
use Prim.Native.Nat.{ℕ, zero, suc, ◌+◌, ◌<◌}
use mathlib.Core.Path.{◌≡◌, refl, sym, ap, ◌∙◌}
use mathlib.Core.List.{List, [], ◌∷◌}
use native.Mathlib.Omega.{arith}
use Rattle.numbers.specs.Limits.{owners}
use Rattle.numbers.specs.Refusals.{answer_by}
use Rattle.numbers.proofs.Refusals.{answer_accepted}
use Rattle.settlement.specs.Book.{Book}
use Rattle.settlement.specs.Events.{Answered}
use Rattle.settlement.specs.Ledger.{Entry, book_at, IsLedger, sum_over, credit, charge}
use Rattle.settlement.proofs.EntryParts.{over_next, refused_nothing}
use Rattle.settlement.proofs.RunLaws.{over_none, written_long, credit_line, charge_line}
use Rattle.statement_text.specs.Text.{Line, event_lines}
use Rattle.settlement_run.specs.Run.{Part, program_year, tag_of, last_line, all_lines}
use Rattle.settlement_run.specs.PrintedClaim.{credit_in, charge_in, sum_lines, number_in, ledger_lines}
use Rattle.settlement_run.proofs.Parts.{by_refusal}
use Rattle.settlement_run.proofs.PrintedLines.{sum_none, sum_append, sum_one, credits_of_event, charges_of_event}

-- ---- the lines of an entry

-- those of an accepted call
abbrev pub lines_of : List Entry → Entry → List Line
lines_of past entry = event_lines (tag_of entry.call) (number_in entry.call past) entry.written

abbrev pub entry_lines : List Entry → Entry → List Line
entry_lines past entry = answer_by entry.result.refusal (lines_of past entry) []

module _ (part : Line → ℕ) (past : List Entry) (entry : Entry) where
  pub sum_of_accepted : entry.result.refusal ≡ 0 → sum_lines part (entry_lines past entry) ≡ sum_lines part (lines_of past entry)
  sum_of_accepted accepted = ap (sum_lines part) (answer_accepted entry.result.refusal (lines_of past entry) [] accepted)

  pub sum_of_next : sum_lines part (ledger_lines (entry ∷ past)) ≡ sum_lines part (ledger_lines past) + sum_lines part (entry_lines past entry)
  unfolding ledger_lines
  sum_of_next = sum_append part (ledger_lines past) (entry_lines past entry)

pub sum_of_start : (part : Line → ℕ) → sum_lines part (ledger_lines []) ≡ 0
unfolding ledger_lines
sum_of_start part = sum_none part

-- ---- the lines of a ledger

-- a part that the lines of each accepted entry have as the entry has it
module _ (part : Line → ℕ) (term : List Entry → Entry → ℕ)
    (of_accepted : (past : List Entry) (entry : Entry)
    → Answered entry.call (book_at program_year past) entry.lent entry.result entry.written
    → entry.result.refusal ≡ 0 → sum_lines part (lines_of past entry) ≡ term past entry)
    (of_refused : (past : List Entry) (entry : Entry) → (entry.result.refusal ≡ 0 → ⊥) → term past entry ≡ 0) where
  sum_ledger : (ledger : List Entry) → IsLedger program_year ledger → sum_lines part (ledger_lines ledger) ≡ sum_over term ledger
  sum_ledger [] answered = sum_of_start part ∙ sym (over_none term)
  sum_ledger (entry ∷ past) answered =
      omega (arith, sum_of_next part past entry, over_next term entry past, sum_ledger past answered.1, here)
    where
      here : sum_lines part (entry_lines past entry) ≡ term past entry
      here =
          by_refusal (λ (lines : List Line). sum_lines part lines ≡ term past entry) entry.result.refusal (lines_of past entry) []
          (of_accepted past entry answered.0) (λ refused. sum_none part ∙ sym (of_refused past entry refused))

module _ (owner : ℕ) (inside : owner < owners) where
  pub credits_of_ledger : (ledger : List Entry) → IsLedger program_year ledger → sum_lines (credit_in owner) (ledger_lines ledger) ≡ sum_over (credit owner) ledger
  credits_of_ledger =
      sum_ledger (credit_in owner) (credit owner)
      (λ past entry answered accepted.
      credits_of_event (tag_of entry.call) (number_in entry.call past) owner entry.written
      (omega (arith, inside, written_long program_year past entry answered accepted))
      ∙ sym (credit_line program_year past entry answered accepted owner inside))
      (λ past entry refused. (refused_nothing program_year past entry refused).credits owner)

  pub charges_of_ledger : (ledger : List Entry) → IsLedger program_year ledger → sum_lines (charge_in owner) (ledger_lines ledger) ≡ sum_over (charge owner) ledger
  charges_of_ledger =
      sum_ledger (charge_in owner) (charge owner)
      (λ past entry answered accepted.
      charges_of_event (tag_of entry.call) (number_in entry.call past) owner entry.written
      (omega (arith, inside, written_long program_year past entry answered accepted))
      ∙ sym (charge_line program_year past entry answered accepted owner inside))
      (λ past entry refused. (refused_nothing program_year past entry refused).charges owner)

-- ---- the last line

last_credit : (owner refusal : ℕ) (book : Book) → credit_in owner (last_line refusal book) ≡ 0
unfolding credit_in last_line
last_credit owner zero book = refl
last_credit owner (suc n) book = refl

last_charge : (owner refusal : ℕ) (book : Book) → charge_in owner (last_line refusal book) ≡ 0
unfolding charge_in last_line
last_charge owner zero book = refl
last_charge owner (suc n) book = refl

-- all lines of a run that prints the lines of a ledger
module _ (run : Part) (ledger : List Entry) (answered : IsLedger program_year ledger) (prints : run.printed ≡ ledger_lines ledger) where
  all_lines_lem : (part : Line → ℕ)
      → sum_lines part (all_lines run) ≡ sum_lines part (ledger_lines ledger) + part (last_line run.refusal run.book)
  all_lines_lem part =
      let last = last_line run.refusal run.book in
      omega (arith, sum_append part run.printed (last ∷ []), ap (sum_lines part) prints, sum_one part last)

  pub all_credits_lem : (owner : ℕ) → owner < owners → sum_lines (credit_in owner) (all_lines run) ≡ sum_over (credit owner) ledger
  all_credits_lem owner inside =
      omega
      (arith, all_lines_lem (credit_in owner), last_credit owner run.refusal run.book, credits_of_ledger owner inside ledger answered)

  pub all_charges : (owner : ℕ) → owner < owners → sum_lines (charge_in owner) (all_lines run) ≡ sum_over (charge owner) ledger
  all_charges owner inside =
      omega
      (arith, all_lines_lem (charge_in owner), last_charge owner run.refusal run.book, charges_of_ledger owner inside ledger answered)
