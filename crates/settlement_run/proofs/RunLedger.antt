-- The ledger of the calls that a run makes ends in the run's book, and what the run prints is the lines of its accepted calls.
-- Assumes nothing.
use Prim.Native.Nat.{ℕ, zero, suc, ◌+◌}
use mathlib.Core.Path.{◌≡◌, refl, sym, ap, ap₂, subst, ◌∙◌}
use mathlib.Core.Bool.{Bool, true, false, cond}
use mathlib.Core.List.{List, [], ◌∷◌, ◌++◌, append_assoc, append-nil}
use native.Mathlib.Omega.{arith}
use lib.ListN.{length}
use lib.IntN.{ℤ, pos, ◌+ℤ◌}
use borrow.Author.Differences.{ints}
use Rattle.numbers.specs.Limits.{owners}
use Rattle.numbers.specs.Lists.{total, list_below}
use Rattle.numbers.specs.Refusals.{answer_by}
use Rattle.numbers.specs.Signs.{positive}
use Rattle.numbers.proofs.Refusals.{answer_accepted, answer_refused}
use Rattle.numbers.proofs.Counts.{total_suc}
use Rattle.numbers.proofs.Signed.{sum_none, sum_next}
use Rattle.target.specs.Target.{target}
use Rattle.settlement.specs.Book.{Book, fresh}
use Rattle.settlement.specs.Events.{Call, hour_call, month_end_call, year_end_call, event_of, is_due, refusal, record_of, lines, book_after}
use Rattle.settlement.specs.Ledger.{Entry, Asked, book_at, entry_on, ledger_of, at_hour, hour_count, sum_over, balance_over, call_positive, positive_target, call_amount, collection}
use Rattle.settlement.proofs.EntryParts.{Parts, over_next, balance_next, refused_nothing, accepted_parts}
use Rattle.settlement.proofs.ClaimHolds.{kept_all}
use Rattle.settlement.proofs.OneLedger.{book_at_start, book_at_entry, ledger_none, ledger_next, is_ledger}
use Rattle.settlement.proofs.RunLaws.{over_none, balance_over_none}
use Rattle.hour_block.specs.Block.{amount_in, prices_in}
use Rattle.statement_text.specs.Text.{Line, event_lines}
use Rattle.settlement_run.specs.Run.{Part, block_refusal, program_year, goes_on, stops, behind, and_then, tag_of, number_of, asked_of, event_part, if_due, hour_part, step_part, opening_refusal, opening, block_at, run_to}
use Rattle.settlement_run.specs.PrintedClaim.{collected_in, targets_in, number_in, ledger_lines}
use Rattle.settlement_run.proofs.Parts.{by_refusal, by_first, then_goes, then_stops}

-- ---- parts in a row

-- what comes behind two parts in a row comes behind the second
behind_then : (first part : Part) (next : Book → Part) → behind first (and_then part next) ≡ and_then (behind first part) next
behind_then first part next =
    by_first part next (λ (p : Part). behind first p ≡ and_then (behind first part) next)
    (λ on.
    ap₂
    (λ (calls : List Asked) (printed : List Line).
    record {
      calls = calls;
      printed = printed;
      refusal = (next part.book).refusal;
      tag = (next part.book).tag;
      number = (next part.book).number;
      faulty = (next part.book).faulty;
      book = (next part.book).book;
    })
    (append_assoc (next part.book).calls part.calls first.calls)
    (sym (append_assoc first.printed part.printed (next part.book).printed))
    ∙ sym (then_goes (behind first part) next on))
    (λ stopped. sym (then_stops (behind first part) next stopped))

-- ---- the ledger of a part that began with a fresh book

-- after so many blocks, each an accepted hour unless the run has stopped
pub record Made (file input : List ℕ) (blocks : ℕ) (part : Part) : Type 0 where
  pub reached : book_at program_year (ledger_of program_year part.calls) ≡ part.book
  pub prints : part.printed ≡ ledger_lines (ledger_of program_year part.calls)
  pub collected : balance_over collection (ledger_of program_year part.calls) ≡ collected_in input (sum_over hour_count (ledger_of program_year part.calls))
  pub targeted : (owner : ℕ)
      → sum_over (positive_target program_year owner) (ledger_of program_year part.calls) ≡ targets_in file input owner (sum_over hour_count (ledger_of program_year part.calls))
  pub counted : part.refusal ≡ 0 → sum_over hour_count (ledger_of program_year part.calls) ≡ blocks

-- an amount that only an hour collects
abbrev amount_at_hour : Call → ℤ → ℤ
amount_at_hour (hour_call file prices collected) amount = amount
amount_at_hour month_end_call amount = pos 0
amount_at_hour year_end_call amount = pos 0

-- an hour's call is that of its block
pub record IsOf (file input : List ℕ) (call : Call) (block : ℕ) : Type 0 where
  pub amount : call_amount call ≡ amount_at_hour call (amount_in (block_at input block))
  pub positives : (owner : ℕ)
      → call_positive call program_year block owner ≡ at_hour call (positive (target program_year file (prices_in (block_at input block)) block owner))

-- one hour more in a sum over the hours, or none
sum_at_hour : (call : Call) (f : ℕ → ℕ) (n : ℕ) → total (list_below f (at_hour call 1 + n)) ≡ at_hour call (f n) + total (list_below f n)
sum_at_hour (hour_call file prices collected) f n =
    let next : 1 + n ≡ suc n = omega arith in
    ap (λ (m : ℕ). total (list_below f m)) next ∙ omega (arith, total_suc f n)
sum_at_hour month_end_call f n =
    let same : 0 + n ≡ n = omega arith in ap (λ (m : ℕ). total (list_below f m)) same ∙ omega arith
sum_at_hour year_end_call f n =
    let same : 0 + n ≡ n = omega arith in ap (λ (m : ℕ). total (list_below f m)) same ∙ omega arith

-- a sum that an entry adds nothing to, or an hour's number
module _ (part : List Entry → Entry → ℕ) (f : ℕ → ℕ) (past : List Entry) (entry : Entry)
    (so_far : sum_over part past ≡ total (list_below f (sum_over hour_count past))) where
  sum_refused : part past entry ≡ 0 → hour_count past entry ≡ 0
      → sum_over part (entry ∷ past) ≡ total (list_below f (sum_over hour_count (entry ∷ past)))
  sum_refused none no_hour =
      let same : sum_over hour_count past ≡ sum_over hour_count (entry ∷ past) = omega (arith, over_next hour_count entry past) in
      let sums : sum_over part (entry ∷ past) ≡ sum_over part past = omega (arith, over_next part entry past) in
      sums ∙ so_far ∙ ap (λ (m : ℕ). total (list_below f m)) same

  sum_accepted : part past entry ≡ at_hour entry.call (f (sum_over hour_count past)) → hour_count past entry ≡ at_hour entry.call 1
      → sum_over part (entry ∷ past) ≡ total (list_below f (sum_over hour_count (entry ∷ past)))
  sum_accepted more hour =
      let next : at_hour entry.call 1 + sum_over hour_count past ≡ sum_over hour_count (entry ∷ past) =
      omega (arith, over_next hour_count entry past) in
      let sums : sum_over part (entry ∷ past) ≡ at_hour entry.call (f (sum_over hour_count past)) + total (list_below f (sum_over hour_count past)) =
      omega (arith, over_next part entry past) in
      sums ∙ sym (sum_at_hour entry.call f (sum_over hour_count past)) ∙ ap (λ (m : ℕ). total (list_below f m)) next

-- the sum of the amounts collected, to which an entry adds nothing, or the amount of an hour's block
module _ (input : List ℕ) (past : List Entry) (entry : Entry)
    (so_far : balance_over collection past ≡ collected_in input (sum_over hour_count past)) where
  none_collected : collection past entry ≡ pos 0 → hour_count past entry ≡ 0
      → balance_over collection (entry ∷ past) ≡ collected_in input (sum_over hour_count (entry ∷ past))
  none_collected none no_hour =
      let same : sum_over hour_count past ≡ sum_over hour_count (entry ∷ past) = omega (arith, over_next hour_count entry past) in
      let sums : balance_over collection (entry ∷ past) ≡ balance_over collection past = omega (arith, ints, balance_next collection entry past) in
      sums ∙ so_far ∙ ap (collected_in input) same

  one_collected : collection past entry ≡ amount_in (block_at input (sum_over hour_count past)) → hour_count past entry ≡ 1
      → balance_over collection (entry ∷ past) ≡ collected_in input (sum_over hour_count (entry ∷ past))
  one_collected amount hour =
      let next : sum_over hour_count past + 1 ≡ sum_over hour_count (entry ∷ past) = omega (arith, over_next hour_count entry past) in
      let sums : balance_over collection (entry ∷ past) ≡ collected_in input (sum_over hour_count past) +ℤ amount_in (block_at input (sum_over hour_count past)) =
      omega (arith, ints, balance_next collection entry past) in
      sums ∙ sym (sum_next (λ hour. amount_in (block_at input hour)) (sum_over hour_count past)) ∙ ap (collected_in input) next

  collected_next : (call : Call) → collection past entry ≡ amount_at_hour call (amount_in (block_at input (sum_over hour_count past)))
      → hour_count past entry ≡ at_hour call 1
      → balance_over collection (entry ∷ past) ≡ collected_in input (sum_over hour_count (entry ∷ past))
  collected_next (hour_call file prices collected) = one_collected
  collected_next month_end_call = none_collected
  collected_next year_end_call = none_collected

-- the numbers that the lines have are the book's
number_is : (call : Call) (calls : List Asked) → number_of call (book_at program_year (ledger_of program_year calls)) ≡ number_in call (ledger_of program_year calls)
number_is (hour_call file prices collected) calls = (kept_all program_year refl (ledger_of program_year calls) (is_ledger program_year calls)).hours
number_is month_end_call calls = (kept_all program_year refl (ledger_of program_year calls) (is_ledger program_year calls)).months
number_is year_end_call calls = refl

-- ---- an event

module _ (file input : List ℕ) (blocks : ℕ) (run : Part) (before : Made file input blocks run) (on : run.refusal ≡ 0) where
  module _ (call : Call) (of : IsOf file input call blocks) where
    abbrev past : List Entry
    past = ledger_of program_year run.calls

    abbrev book : Book
    book = book_at program_year past

    -- the entry of the call, and the ledger with it
    abbrev entry : Entry
    entry = entry_on book (asked_of call)

    next : entry ∷ past ≡ ledger_of program_year (asked_of call ∷ run.calls)
    next = sym (ledger_next program_year (asked_of call) run.calls)

    of_next : IsOf file input call (sum_over hour_count past)
    of_next = subst (IsOf file input call) (sym (before.counted on)) of

    -- what is to be shown of the part with the call, by the ledger with it
    made_next : (lines : List Line) (number tag event faulty : ℕ) (after : Book) → entry.result.book ≡ after
        → lines ≡ answer_by entry.result.refusal (event_lines (tag_of call) (number_in call past) entry.written) []
        → balance_over collection (entry ∷ past) ≡ collected_in input (sum_over hour_count (entry ∷ past))
        → ((owner : ℕ) → sum_over (positive_target program_year owner) (entry ∷ past) ≡ targets_in file input owner (sum_over hour_count (entry ∷ past)))
        → (number ≡ 0 → sum_over hour_count (entry ∷ past) ≡ at_hour call 1 + blocks)
        → Made file input (at_hour call 1 + blocks)
        (behind run (record { calls = asked_of call ∷ []; printed = lines; refusal = number; tag = tag; number = event; faulty = faulty; book = after }))
    unfolding ledger_lines
    made_next lines number tag event faulty after gives printed collected targeted counted =
        record {
          reached = ap (book_at program_year) (sym next) ∙ book_at_entry program_year entry past ∙ gives;
          prints = ap₂ (λ (a b : List Line). a ++ b) before.prints printed ∙ ap ledger_lines next;
          collected = subst (λ (l : List Entry). balance_over collection l ≡ collected_in input (sum_over hour_count l)) next collected;
          targeted =
              λ owner.
              subst (λ (l : List Entry). sum_over (positive_target program_year owner) l ≡ targets_in file input owner (sum_over hour_count l)) next (targeted owner);
          counted = λ e. ap (sum_over hour_count) (sym next) ∙ counted e;
        }

    event_accepted : refusal call book owners ≡ 0
        → Made file input (at_hour call 1 + blocks)
        (behind run (goes_on (asked_of call ∷ []) (event_lines (tag_of call) (number_of call book) (lines call book)) (book_after call book)))
    event_accepted accepted =
        made_next (event_lines (tag_of call) (number_of call book) (lines call book)) 0 0 0 0 (book_after call book)
        (answer_accepted (refusal call book owners) _ _ accepted)
        (ap₂ (event_lines (tag_of call)) (number_is call run.calls) (sym (answer_accepted (refusal call book owners) (lines call book) _ accepted))
        ∙ sym (answer_accepted entry.result.refusal _ [] accepted))
        (collected_next input past entry before.collected call (parts.collected ∙ of_next.amount) parts.hour)
        (λ owner.
        sum_accepted (positive_target program_year owner) (λ hour. positive (target program_year file (prices_in (block_at input hour)) hour owner)) past entry
        (before.targeted owner) (parts.target owner ∙ of_next.positives owner) parts.hour)
        (λ _. omega (arith, before.counted on, over_next hour_count entry past, parts.hour))
      where
        parts : Parts program_year past entry
        parts = accepted_parts program_year past entry (record { gives = refl; writes = refl }) accepted

    event_refused : (refusal call book owners ≡ 0 → ⊥)
        → Made file input (at_hour call 1 + blocks)
        (behind run (stops (asked_of call ∷ []) (refusal call book owners) (tag_of call) (number_of call book) (record_of call book.year (refusal call book owners)) book))
    event_refused refused =
        let none = refused_nothing program_year past entry refused in
        made_next [] (refusal call book owners) (tag_of call) (number_of call book) (record_of call book.year (refusal call book owners)) book
        (answer_refused (refusal call book owners) _ _ refused)
        (sym (answer_refused entry.result.refusal _ [] refused))
        (none_collected input past entry before.collected none.collected none.hour)
        (λ owner.
        sum_refused (positive_target program_year owner) (λ hour. positive (target program_year file (prices_in (block_at input hour)) hour owner)) past entry
        (before.targeted owner) (none.target owner) none.hour)
        (λ e. absurd (refused e))

    made_event : Made file input (at_hour call 1 + blocks) (behind run (event_part call run.book))
    unfolding event_part
    made_event =
        subst (λ (at : Book). Made file input (at_hour call 1 + blocks) (behind run (event_part call at))) before.reached
        (by_refusal (λ (part : Part). Made file input (at_hour call 1 + blocks) (behind run part)) (refusal call book owners) _ _
        event_accepted event_refused)

  -- a part that makes no call
  made_still : (now refusal tag number : ℕ) → (refusal ≡ 0 → now ≡ blocks)
      → Made file input now (behind run (stops [] refusal tag number 0 run.book))
  made_still now refusal tag number same =
      record {
        reached = before.reached;
        prints = append-nil run.printed ∙ before.prints;
        collected = before.collected;
        targeted = before.targeted;
        counted = λ e. before.counted on ∙ sym (same e);
      }

  -- a month end or a year end, if it is due
  made_due : (call : Call) → IsOf file input call blocks → at_hour call 1 ≡ 0
      → Made file input blocks (behind run (if_due call run.book))
  unfolding if_due
  made_due call of no_hour = by_test (is_due (event_of call) run.book) refl
    where
      same : at_hour call 1 + blocks ≡ blocks
      same = omega (arith, no_hour)

      by_test : (test : Bool) → is_due (event_of call) run.book ≡ test
          → Made file input blocks (behind run (cond test (event_part call run.book) (goes_on [] [] run.book)))
      by_test true e = subst (λ (n : ℕ). Made file input n (behind run (event_part call run.book))) same (made_event call of)
      by_test false e = made_still blocks 0 0 0 (λ _. refl)

  -- the hour of a block
  made_hour : Made file input (suc blocks) (behind run (hour_part file (block_at input blocks) run.book))
  unfolding hour_part
  made_hour =
      by_refusal (λ (part : Part). Made file input (suc blocks) (behind run part)) (block_refusal run.book.year (length (block_at input blocks))) _ _
      (λ _. subst (λ (n : ℕ). Made file input n (behind run (event_part call run.book))) next (made_event call (record { amount = refl; positives = λ owner. refl })))
      (λ broken. made_still (suc blocks) _ 72 run.book.hours (λ e. absurd (broken e)))
    where
      call : Call
      call = hour_call file (prices_in (block_at input blocks)) (amount_in (block_at input blocks))

      next : 1 + blocks ≡ suc blocks
      next = omega arith

-- ---- the run

-- one part after another
made_then : (file input : List ℕ) (blocks now : ℕ) (part : Part) (next : Book → Part) → Made file input blocks part
    → (part.refusal ≡ 0 → Made file input now (behind part (next part.book))) → Made file input now (and_then part next)
made_then file input blocks now part next before after =
    by_first part next (Made file input now) after
    (λ stopped.
    record {
      reached = before.reached;
      prints = before.prints;
      collected = before.collected;
      targeted = before.targeted;
      counted = λ e. absurd (stopped e);
    })

module _ (file input : List ℕ) where
  made_step : (blocks : ℕ) (run : Part) → Made file input blocks run → run.refusal ≡ 0
      → Made file input (suc blocks) (behind run (step_part file (block_at input blocks) run.book))
  unfolding step_part
  made_step blocks run before on =
      subst (Made file input (suc blocks))
      (sym
      (behind_then run (and_then hour (if_due month_end_call)) (if_due year_end_call)
      ∙ ap (λ (part : Part). and_then part (if_due year_end_call)) (behind_then run hour (if_due month_end_call))))
      (made_then file input (suc blocks) (suc blocks) (and_then (behind run hour) (if_due month_end_call)) (if_due year_end_call)
      month
      (λ e.
      made_due file input (suc blocks) (and_then (behind run hour) (if_due month_end_call)) month e year_end_call
      (record { amount = refl; positives = λ owner. refl }) refl))
    where
      hour : Part
      hour = hour_part file (block_at input blocks) run.book

      month : Made file input (suc blocks) (and_then (behind run hour) (if_due month_end_call))
      month =
          made_then file input (suc blocks) (suc blocks) (behind run hour) (if_due month_end_call) (made_hour file input blocks run before on)
          (λ e.
          made_due file input (suc blocks) (behind run hour) (made_hour file input blocks run before on) e month_end_call
          (record { amount = refl; positives = λ owner. refl }) refl)

  -- nothing was called yet
  made_none : (refusal : ℕ) → Made file input 0 (stops [] refusal 0 0 0 (fresh program_year))
  unfolding ledger_lines total list_below
  made_none refusal =
      record {
        reached = ap (book_at program_year) (ledger_none program_year) ∙ book_at_start program_year;
        prints = ap ledger_lines (sym (ledger_none program_year));
        collected =
            ap (balance_over collection) (ledger_none program_year) ∙ balance_over_none collection
            ∙ sym (ap (collected_in input) (ap (sum_over hour_count) (ledger_none program_year) ∙ over_none hour_count) ∙ sum_none (λ hour. amount_in (block_at input hour)));
        targeted = λ owner. no_sum (positive_target program_year owner) (λ hour. positive (target program_year file (prices_in (block_at input hour)) hour owner));
        counted = λ _. ap (sum_over hour_count) (ledger_none program_year) ∙ over_none hour_count;
      }
    where
      no_sum : (part : List Entry → Entry → ℕ) (f : ℕ → ℕ) → sum_over part (ledger_of program_year []) ≡ total (list_below f (sum_over hour_count (ledger_of program_year [])))
      no_sum part f =
          ap (sum_over part) (ledger_none program_year) ∙ over_none part
          ∙ sym (ap (λ (l : List Entry). total (list_below f (sum_over hour_count l))) (ledger_none program_year) ∙ ap (λ (n : ℕ). total (list_below f n)) (over_none hour_count))

  pub made_run : (readable : Bool) (n : ℕ) → Made file input n (run_to readable file input n)
  unfolding run_to opening
  made_run readable zero = made_none (opening_refusal readable (length file))
  made_run readable (suc n) =
      made_then file input n (suc n) (run_to readable file input n) (step_part file (block_at input n)) (made_run readable n)
      (made_step n (run_to readable file input n) (made_run readable n))
