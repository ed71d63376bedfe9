-- Parts of a run appended to a text: an event, a month end or a year end where it is due, one part behind another.
-- Assumes nothing.
use Prim.Native.Nat.{ℕ, zero, suc, ◌+◌, ◌≤◌}
use mathlib.Core.Path.{◌≡◌, refl, sym, ap, subst, ◌∙◌}
use mathlib.Core.Bool.{true, false}
use mathlib.Core.List.{List, [], ◌∷◌}
use native.Mathlib.Omega.{arith}
use lib.ListN.{length}
use lib.IntN.{ℤ}
use Rattle.std.specs.Prelude.{Result, Ok, Err}
use Rattle.numbers.specs.Limits.{owners}
use Rattle.numbers.specs.declared.refusal.Refusal.{Refusal}
use Rattle.numbers.specs.Refusals.{answer_by}
use Rattle.numbers.proofs.Refusals.{number_some}
use Rattle.settlement.specs.Book.{Book}
use Rattle.settlement.specs.declared.Book.{Book as ByOwner}
use Rattle.settlement.specs.ByOwner.{read_off, AnsweredByOwner}
use Rattle.settlement.specs.declared.Funding.{Funding}
use Rattle.settlement.specs.Events.{result_of, Call, hour_call, month_end_call, year_end_call, event_of, is_due, refusal, record_of, lines, book_after, Answered}
use Rattle.settlement.proofs.ByOwner.{laid_long}
use Rattle.settlement.proofs.Refusing.{gives_number, gives_record, gives_book_lem}
use Rattle.numbers.specs.Lists.{written}
use Rattle.statement_text.specs.Buffer.{end_after, text_after}
use Rattle.statement_text.specs.InnerContracts.{Wrote}
use Rattle.statement_text.specs.Text.{text_of, event_lines, event_room}
use Rattle.statement_text.proofs.Lines.{text_none}
use Rattle.statement_text.proofs.Pieces.{wrote_nothing, wrote_as}
use Rattle.statement_text.proofs.Room.{with_room}
use Rattle.settlement_run.specs.declared.Run.{Run}
use Rattle.settlement_run.specs.Run.{Part, goes_on, stops, and_then, tag_of, number_of, asked_of, event_part, if_due}
use Rattle.settlement_run.specs.Calls.{standing}
use Rattle.settlement_run.specs.InnerContracts.{ending, Appended, call_at, answered_part, with_refusal}
use Rattle.settlement_run.proofs.Parts.{then_goes, then_stops}

-- with the room that a call asks for, its text is written
pub wrote_with_room : (room : ℕ) (text before : List ℕ) (at : ℕ) (after : List ℕ) (end : ℕ) → at + room ≤ length before
    → end ≡ end_after room text before at → after ≡ text_after room text before at → Wrote text before at after end
wrote_with_room room text before at after end enough ends buffer =
    let whole = with_room room text before at (written before at text) (at + length text) enough (record { ends = refl; buffer = refl }) in
    record { ends = ends ∙ sym whole.0; buffer = buffer ∙ sym whole.1 }

-- ---- parts that differ in their calls alone

pub record SameEnd (one two : Part) : Type 0 where
  pub printed : one.printed ≡ two.printed
  pub ends : ending one ≡ ending two

pub same_end : {one two : Part} → one ≡ two → SameEnd one two
same_end e = record { printed = ap (λ (p : Part). p.printed) e; ends = ap ending e }

pub same_then : {one two three : Part} → SameEnd one two → SameEnd two three → SameEnd one three
same_then first second = record { printed = first.printed ∙ second.printed; ends = first.ends ∙ second.ends }

pub appended_as : {one two : Part} {run result : Run} {before after : List ℕ} → SameEnd one two
    → Appended one run before result after → Appended two run before result after
appended_as same made =
    record {
      full = made.full;
      wrote = wrote_as (ap text_of same.printed) made.wrote;
      short = made.short;
      stands = made.stands ∙ same.ends;
      cells = made.cells;
    }

-- a part's lines are written up to an end, and the run's refusal is told; its book is the part's
pub appended_told : (part : Part) (run : Run) {before after : List ℕ} {end : ℕ} {result : Run} → read_off run.book ≡ part.book
    → Wrote (text_of part.printed) before run.end after end → end ≤ run.end + event_room owners
    → result
    ≡ with_refusal part
    (record { full = run.full; end = end; refusal = run.refusal; tag = run.tag; number = run.number; faulty = run.faulty; book = run.book })
    → Appended part run before result after
appended_told part run {before} {after} same wrote short told =
    subst (λ (r : Run). Appended part run before r after) (sym told)
    (record {
      full = refl;
      wrote = wrote;
      short = short;
      stands = ap (stops [] part.refusal part.tag part.number part.faulty) same;
      cells = λ all. all;
    })

-- nothing is printed
pub wrote_none : (part : Part) (before : List ℕ) (at : ℕ) → part.printed ≡ [] → Wrote (text_of part.printed) before at before at
wrote_none part before at none = wrote_as (sym (ap text_of none ∙ text_none)) (wrote_nothing before at)

pub appended_nothing : (part : Part) (run : Run) (before : List ℕ) {result : Run} → read_off run.book ≡ part.book → part.printed ≡ []
    → result ≡ with_refusal part run → Appended part run before result before
appended_nothing part run before same none told =
    appended_told part run same (wrote_none part before run.end none) (omega arith) told

-- ---- an event

-- its letter and its number are those of its calls
tag_is : (call : Call) → tag_of (call_at (event_of call)) ≡ tag_of call
tag_is (hour_call file prices collected) = refl
tag_is month_end_call = refl
tag_is year_end_call = refl

pub number_is : (call : Call) (book : Book) → number_of (call_at (event_of call)) book ≡ number_of call book
number_is (hour_call file prices collected) book = refl
number_is month_end_call book = refl
number_is year_end_call book = refl

-- the answer of a call on a book ends as the event's part does
module _ (call : Call) (book after : Book) (lent cents : List ℤ) where
  by_number : (number : ℕ) (outcome : Result Funding Refusal) → (result_of outcome after).refusal ≡ number
      → (result_of outcome after).faulty ≡ record_of call book.year number → (result_of outcome after).book ≡ answer_by number (book_after call book) book
      → cents ≡ answer_by number (lines call book) lent
      → SameEnd (answered_part (event_of call) (number_of call book) outcome after cents)
      (answer_by number (goes_on (asked_of call ∷ []) (event_lines (tag_of call) (number_of call book) (lines call book)) (book_after call book))
      (stops (asked_of call ∷ []) number (tag_of call) (number_of call book) (record_of call book.year number) book))
  by_number zero (Ok funding) is names gives writes =
      record {
        printed = λ i. event_lines (tag_is call i) (number_of call book) (writes i);
        ends = λ i. stops [] 0 0 0 0 (gives i);
      }
  by_number zero (Err refusal) is names gives writes = absurd (number_some refusal is)
  by_number (suc n) (Ok funding) is names gives writes = absurd (omega arith)
  by_number (suc n) (Err refusal) is names gives writes =
      record { printed = refl; ends = λ i. stops [] (is i) (tag_is call i) (number_of call book) (names i) (gives i) }

  event_ends : (outcome : Result Funding Refusal) → Answered call book lent (result_of outcome after) cents → length lent ≡ owners
      → SameEnd (answered_part (event_of call) (number_of call book) outcome after cents) (event_part call book)
  unfolding event_part
  event_ends outcome answered all =
      let places = ap (refusal call book) all in
      by_number (refusal call book owners) outcome (gives_number answered ∙ places)
      (gives_record answered ∙ ap (record_of call book.year) places)
      (gives_book_lem answered ∙ ap (λ (n : ℕ). answer_by n (book_after call book) book) places)
      (answered.writes ∙ ap (λ (n : ℕ). answer_by n (lines call book) lent) places)

-- an event is settled on a run's book, and its answer is appended
pub event_appended : (call : Call) (run : Run) {lent cents : List ℤ} {outcome : Result Funding Refusal} {next : ByOwner} {before after : List ℕ} {result : Run}
    → AnsweredByOwner call run.book lent outcome next cents → length lent ≡ owners
    → Appended (answered_part (event_of call) (number_of call (read_off run.book)) outcome (read_off next) cents)
    (record { full = run.full; end = run.end; refusal = run.refusal; tag = run.tag; number = run.number; faulty = run.faulty; book = next })
    before result after
    → Appended (event_part call (read_off run.book)) run before result after
event_appended call run {outcome = outcome} answered all made =
    let same = event_ends call (read_off run.book) _ _ _ outcome answered.as_ruled all in
    record {
      full = made.full;
      wrote = wrote_as (ap text_of same.printed) made.wrote;
      short = made.short;
      stands = made.stands ∙ same.ends;
      cells = λ _. made.cells (ap (λ (b : ByOwner). length b.shortfalls) answered.laid ∙ laid_long _ _);
    }

-- ---- a month end or a year end, where it is due

-- a run that has stopped stays as it is
pub appended_stopped : (run : Run) (next : Book → Part) (before : List ℕ) → (run.refusal ≡ 0 → ⊥)
    → Appended (and_then (standing run) next) run before run before
appended_stopped run next before stopped =
    rw (then_stops (standing run) next stopped)
    (record { full = refl; wrote = wrote_none (standing run) before run.end refl; short = omega arith; stands = refl; cells = λ all. all })

-- a run that goes on ends as the next part does
pub same_next : (run : Run) (next : Book → Part) → run.refusal ≡ 0 → SameEnd (next (read_off run.book)) (and_then (standing run) next)
same_next run next goes =
    same_then (record { printed = refl; ends = refl }) (same_end (sym (then_goes (standing run) next goes)))

module _ (call : Call) (run : Run) (before : List ℕ) (goes : run.refusal ≡ 0) where
  pub not_due : is_due (event_of call) (read_off run.book) ≡ false → {result : Run}
      → result ≡ with_refusal (goes_on [] [] (read_off run.book)) run
      → Appended (and_then (standing run) (if_due call)) run before result before
  unfolding if_due
  not_due later told =
      appended_as (same_next run (if_due call) goes) (rw later (appended_nothing (goes_on [] [] (read_off run.book)) run before refl refl told))

  pub when_due : is_due (event_of call) (read_off run.book) ≡ true → {result : Run} {after : List ℕ}
      → Appended (event_part call (read_off run.book)) run before result after
      → Appended (and_then (standing run) (if_due call)) run before result after
  unfolding if_due
  when_due now made = appended_as (same_next run (if_due call) goes) (rw now made)
