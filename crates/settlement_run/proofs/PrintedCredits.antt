-- No two accepted calls of a ledger have the same letter and number, so the credit of each is read from its own lines alone.
-- Assumes nothing.
use Prim.Native.Nat.{ℕ, ◌+◌, ◌≤◌, ◌<◌}
use mathlib.Core.Path.{◌≡◌, refl, sym, subst, ◌∙◌}
use mathlib.Core.Bool.{Bool, true, false, ◌&&◌, false≢true}
use mathlib.Core.List.{List, [], ◌∷◌, ◌++◌, append_assoc, append-nil}
use native.Mathlib.Omega.{arith}
use lib.Dec.{eqb}
use lib.IntN.{ℤ}
use borrow.Author.Tests.{ne_eqb}
use Rattle.numbers.specs.Limits.{owners}
use Rattle.settlement.specs.Events.{Settled, Call, hour_call, month_end_call, year_end_call, Answered}
use Rattle.settlement.specs.Ledger.{Entry, book_at, IsLedger, hour_count, month_end_count, year_end_count, sum_over, credit}
use Rattle.settlement.proofs.EntryParts.{Parts, over_next, accepted_parts}
use Rattle.settlement.proofs.RunLaws.{written_long, credit_line, year_open}
use Rattle.statement_text.specs.Text.{Line}
use Rattle.settlement_run.specs.Run.{program_year, tag_of}
use Rattle.settlement_run.specs.PrintedClaim.{event_credit_in, sum_lines, number_in, ledger_lines, CreditsPrinted}
use Rattle.settlement_run.proofs.Parts.{by_refusal}
use Rattle.settlement_run.proofs.PrintedLines.{sum_none, sum_append, own_credits, other_credits}
use Rattle.settlement_run.proofs.PrintedSums.{lines_of, entry_lines, sum_of_accepted, sum_of_next, sum_of_start}

-- ---- the calls of a kind, counted

-- how many calls of this one's kind were accepted
abbrev count_of : Call → List Entry → ℕ
count_of (hour_call file prices collected) ledger = sum_over hour_count ledger
count_of month_end_call ledger = sum_over month_end_count ledger
count_of year_end_call ledger = sum_over year_end_count ledger

-- calls with one letter are of one kind
same_kind : (call other : Call) → eqb (tag_of other) (tag_of call) ≡ true → (ledger : List Entry) → count_of call ledger ≡ count_of other ledger
same_kind (hour_call file prices collected) (hour_call file' prices' collected') e ledger = refl
same_kind (hour_call file prices collected) month_end_call e ledger = absurd (false≢true e)
same_kind (hour_call file prices collected) year_end_call e ledger = absurd (false≢true e)
same_kind month_end_call (hour_call file prices collected) e ledger = absurd (false≢true e)
same_kind month_end_call month_end_call e ledger = refl
same_kind month_end_call year_end_call e ledger = absurd (false≢true e)
same_kind year_end_call (hour_call file prices collected) e ledger = absurd (false≢true e)
same_kind year_end_call month_end_call e ledger = absurd (false≢true e)
same_kind year_end_call year_end_call e ledger = refl

count_grows : (call : Call) (entry : Entry) (past : List Entry) → count_of call past ≤ count_of call (entry ∷ past)
count_grows (hour_call file prices collected) entry past = omega (arith, over_next hour_count entry past)
count_grows month_end_call entry past = omega (arith, over_next month_end_count entry past)
count_grows year_end_call entry past = omega (arith, over_next year_end_count entry past)

-- the number of an accepted call is the count of its kind before it, which it raises by one
number_counts : (call : Call) (past : List Entry) → sum_over year_end_count past ≡ 0 → number_in call past ≡ count_of call past
number_counts (hour_call file prices collected) past none = refl
number_counts month_end_call past none = refl
number_counts year_end_call past none = sym none

count_next : (past : List Entry) (call : Call) (lent : List ℤ) (result : Settled) (written : List ℤ)
    → Parts program_year past (record { call = call; lent = lent; result = result; written = written })
    → count_of call (record { call = call; lent = lent; result = result; written = written } ∷ past) ≡ 1 + count_of call past
count_next past (hour_call file prices collected) lent result written parts =
    omega (arith, over_next hour_count (record { call = hour_call file prices collected; lent = lent; result = result; written = written }) past, parts.hour)
count_next past month_end_call lent result written parts =
    omega (arith, over_next month_end_count (record { call = month_end_call; lent = lent; result = result; written = written }) past, parts.month)
count_next past year_end_call lent result written parts =
    omega (arith, over_next year_end_count (record { call = year_end_call; lent = lent; result = result; written = written }) past, parts.year_end)

-- ---- the lines of one entry

module _ (past : List Entry) (entry : Entry) (ledger : IsLedger program_year past)
    (answered : Answered entry.call (book_at program_year past) entry.lent entry.result entry.written) where
  -- an event of a number that was counted before, or is yet to be counted, is not this entry's
  module _ (accepted : entry.result.refusal ≡ 0) where
    number_is : number_in entry.call past ≡ count_of entry.call past
    number_is = number_counts entry.call past (year_open program_year past entry answered accepted refl ledger)

    one_more : count_of entry.call (entry ∷ past) ≡ 1 + count_of entry.call past
    one_more =
        count_next past entry.call entry.lent entry.result entry.written (accepted_parts program_year past entry answered accepted)

    apart : (call : Call) (n : ℕ) → (count_of call past ≤ n → n < count_of call (entry ∷ past) → ⊥)
        → (eqb (tag_of entry.call) (tag_of call) && eqb (number_in entry.call past) n) ≡ false
    apart call n outside = by_letter (eqb (tag_of entry.call) (tag_of call)) refl
      where
        by_letter : (test : Bool) → eqb (tag_of entry.call) (tag_of call) ≡ test → (test && eqb (number_in entry.call past) n) ≡ false
        by_letter true e =
            ne_eqb (number_in entry.call past) n
            (λ is.
            let now = same_kind call entry.call e past in
            let later = same_kind call entry.call e (entry ∷ past) in
            outside (omega (arith, number_is)) (omega (arith, number_is, one_more)))
        by_letter false e = refl

  module _ (owner : ℕ) (inside : owner < owners) where
    none_here : (call : Call) (n : ℕ) → (count_of call past ≤ n → n < count_of call (entry ∷ past) → ⊥)
        → sum_lines (event_credit_in (tag_of call) n owner) (entry_lines past entry) ≡ 0
    none_here call n outside =
        by_refusal (λ (lines : List Line). sum_lines (event_credit_in (tag_of call) n owner) lines ≡ 0) entry.result.refusal
        (lines_of past entry) []
        (λ accepted.
        other_credits (tag_of entry.call) (number_in entry.call past) owner entry.written
        (omega (arith, inside, written_long program_year past entry answered accepted)) (tag_of call) n (apart accepted call n outside))
        (λ _. sum_none (event_credit_in (tag_of call) n owner))

    its_own : entry.result.refusal ≡ 0
        → sum_lines (event_credit_in (tag_of entry.call) (number_in entry.call past) owner) (entry_lines past entry)
        ≡ credit owner past entry
    its_own accepted =
        sum_of_accepted (event_credit_in (tag_of entry.call) (number_in entry.call past) owner) past entry accepted
        ∙ own_credits (tag_of entry.call) (number_in entry.call past) owner entry.written
        (omega (arith, inside, written_long program_year past entry answered accepted))
        ∙ sym (credit_line program_year past entry answered accepted owner inside)

-- ---- the lines before an entry, and those after it

-- a number that is yet to be counted is in no line
none_before : (call : Call) (n owner : ℕ) → owner < owners → (ledger : List Entry) → IsLedger program_year ledger → count_of call ledger ≤ n
    → sum_lines (event_credit_in (tag_of call) n owner) (ledger_lines ledger) ≡ 0
none_before call n owner inside [] answered most = sum_of_start (event_credit_in (tag_of call) n owner)
none_before call n owner inside (entry ∷ past) answered most =
    omega
    (arith, sum_of_next (event_credit_in (tag_of call) n owner) past entry, none_before call n owner inside past answered.1 (omega (arith, count_grows call entry past)), none_here past entry answered.1 answered.0 owner inside call n (λ low high. omega arith))

-- lines that have no number that was counted in a ledger
abbrev AreLater : List Entry → List Line → Type 0
AreLater ledger lines =
    (call : Call) (n owner : ℕ) → owner < owners → n < count_of call ledger → sum_lines (event_credit_in (tag_of call) n owner) lines ≡ 0

later_next : (past : List Entry) (entry : Entry) (more : List Line) → IsLedger program_year (entry ∷ past) → AreLater (entry ∷ past) more
    → AreLater past (entry_lines past entry ++ more)
later_next past entry more answered later call n owner inside low =
    omega
    (arith, sum_append (event_credit_in (tag_of call) n owner) (entry_lines past entry) more, none_here past entry answered.1 answered.0 owner inside call n (λ above _. omega arith), later call n owner inside (omega (arith, count_grows call entry past)))

credits_before : (ledger : List Entry) → IsLedger program_year ledger → (more : List Line) → AreLater ledger more → CreditsPrinted (ledger_lines ledger ++ more) ledger
unfolding ledger_lines
credits_before [] answered more later = tt
credits_before (entry ∷ past) answered more later =
    (here, subst (λ (printed : List Line). CreditsPrinted printed past) (sym regrouped) (credits_before past answered.1 (entry_lines past entry ++ more) (later_next past entry more answered later)))
  where
    regrouped : (ledger_lines past ++ entry_lines past entry) ++ more ≡ ledger_lines past ++ (entry_lines past entry ++ more)
    regrouped = append_assoc (ledger_lines past) (entry_lines past entry) more

    here : entry.result.refusal ≡ 0 → (owner : ℕ) → owner < owners
        → sum_lines (event_credit_in (tag_of entry.call) (number_in entry.call past) owner) ((ledger_lines past ++ entry_lines past entry) ++ more)
        ≡ credit owner past entry
    here accepted owner inside =
        let part = event_credit_in (tag_of entry.call) (number_in entry.call past) owner in
        let number = number_is past entry answered.1 answered.0 accepted in
        let next = one_more past entry answered.1 answered.0 accepted in
        omega
        (arith, sum_append part (ledger_lines past ++ entry_lines past entry) more, sum_append part (ledger_lines past) (entry_lines past entry), none_before entry.call (number_in entry.call past) owner inside past answered.1 (omega arith), its_own past entry answered.1 answered.0 owner inside accepted, later entry.call (number_in entry.call past) owner inside (omega arith))

pub credits_printed_lem : (ledger : List Entry) → IsLedger program_year ledger → CreditsPrinted (ledger_lines ledger) ledger
credits_printed_lem ledger answered =
    subst (λ (printed : List Line). CreditsPrinted printed ledger) (append-nil (ledger_lines ledger))
    (credits_before ledger answered [] (λ call n owner inside low. sum_none (event_credit_in (tag_of call) n owner)))
