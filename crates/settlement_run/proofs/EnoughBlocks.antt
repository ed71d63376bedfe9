-- A run over more blocks than a year has hours has stopped: it counts a block for an hour, and the year has no more.
-- Assumes nothing.
use Prim.Native.Nat.{ℕ, zero, suc, ◌<◌}
use mathlib.Core.Path.{◌≡◌, refl, sym, ap, subst, ◌∙◌}
use mathlib.Core.Bool.{Bool, true, false, cond}
use mathlib.Core.List.{List, []}
use native.Mathlib.Numerals.{add-one}
use native.Mathlib.Omega.{arith}
use lib.ListN.{length}
use Rattle.numbers.specs.Limits.{owners}
use Rattle.calendar.specs.Year.{hours_in_year}
use Rattle.settlement.specs.Book.{Book}
use Rattle.settlement.specs.Events.{Call, hour_call, month_end_call, year_end_call, event_of, is_due, refusal, book_after}
use Rattle.settlement.proofs.Accepted.{hour_accepted}
use Rattle.settlement.proofs.HoursAfter.{fresh_hours, fresh_year, keeps_year, hour_hours, month_hours, year_hours}
use Rattle.hour_block.specs.Block.{amount_in, prices_in}
use Rattle.settlement_run.specs.Run.{Part, block_refusal, program_year, goes_on, and_then, event_part, if_due, hour_part, step_part, opening, block_at, run_to}
use Rattle.settlement_run.proofs.BookAfter.{then_keeps, part_keeps}
use Rattle.settlement_run.proofs.Parts.{by_refusal, then_goes, then_went, run_none, run_next}

-- the book of a part that goes on and of what follows
then_book : (part : Part) (next : Book → Part) → part.refusal ≡ 0 → (and_then part next).book ≡ (next part.book).book
then_book part next goes = ap (λ (p : Part). p.book) (then_goes part next goes)

-- ---- an event that does not stop the run is accepted

module _ (call : Call) (book : Book) where
  event_accepted : (event_part call book).refusal ≡ 0
      → (refusal call book owners ≡ 0) × ((event_part call book).book ≡ book_after call book)
  unfolding event_part
  event_accepted =
      by_refusal (λ (p : Part). p.refusal ≡ 0 → (refusal call book owners ≡ 0) × (p.book ≡ book_after call book))
      (refusal call book owners) _ _ (λ accepted _. (accepted, refl)) (λ refused goes. absurd (refused goes))

  -- a call that keeps the hours keeps them also where it is not due
  due_hours : (book_after call book).hours ≡ book.hours → (if_due call book).refusal ≡ 0 → (if_due call book).book.hours ≡ book.hours
  unfolding if_due
  due_hours keeps goes = by_test (is_due (event_of call) book) goes
    where
      by_test : (t : Bool) → (cond t (event_part call book) (goes_on [] [] book)).refusal ≡ 0
          → (cond t (event_part call book) (goes_on [] [] book)).book.hours ≡ book.hours
      by_test true went = ap (λ (b : Book). b.hours) (event_accepted went).1 ∙ keeps
      by_test false went = refl

-- ---- a block that does not stop the run

module _ (file block : List ℕ) (book : Book) where
  abbrev call : Call
  call = hour_call file (prices_in block) (amount_in block)

  hour_goes : (hour_part file block book).refusal ≡ 0
      → (book.hours < hours_in_year book.year) × ((hour_part file block book).book.hours ≡ suc book.hours)
  unfolding hour_part
  hour_goes =
      by_refusal (λ (p : Part). p.refusal ≡ 0 → (book.hours < hours_in_year book.year) × (p.book.hours ≡ suc book.hours))
      (block_refusal book.year (length block)) _ _ settled (λ broken goes. absurd (broken goes))
    where
      settled : block_refusal book.year (length block) ≡ 0 → (event_part call book).refusal ≡ 0
          → (book.hours < hours_in_year book.year) × ((event_part call book).book.hours ≡ suc book.hours)
      settled whole goes =
          let shown = event_accepted call book goes in (
            (hour_accepted file (prices_in block) (amount_in block) book owners shown.0).in_year,
            ap (λ (b : Book). b.hours) shown.1
                ∙ hour_hours file (prices_in block) (amount_in block) book
                ∙ add-one book.hours,
          )

  step_goes : (step_part file block book).refusal ≡ 0
      → (book.hours < hours_in_year book.year) × ((step_part file block book).book.hours ≡ suc book.hours)
  unfolding step_part
  step_goes goes =
      let hour = hour_part file block book in
      let month = and_then hour (if_due month_end_call) in
      let last = then_went month (if_due year_end_call) goes in
      let mid = then_went hour (if_due month_end_call) last.0 in
      let first = hour_goes mid.0 in (
        first.0,
        ap (λ (b : Book). b.hours) (then_book month (if_due year_end_call) last.0)
            ∙ due_hours year_end_call month.book (year_hours month.book) last.1
            ∙ ap (λ (b : Book). b.hours) (then_book hour (if_due month_end_call) mid.0)
            ∙ due_hours month_end_call hour.book (month_hours hour.book) mid.1
            ∙ first.1,
      )

-- ---- a run that has not stopped

module _ (readable : Bool) (file input : List ℕ) where
  abbrev up_to : ℕ → Part
  up_to = run_to readable file input

  -- one block further
  further : (n : ℕ) → (up_to (suc n)).refusal ≡ 0
      → ((up_to n).refusal ≡ 0) × ((step_part file (block_at input n) (up_to n).book).refusal ≡ 0)
  further n goes =
      then_went (up_to n) (step_part file (block_at input n)) (sym (ap (λ (p : Part). p.refusal) (run_next readable file input n)) ∙ goes)

  -- its book keeps the program's year
  year_is : (n : ℕ) → (up_to n).book.year ≡ program_year
  unfolding opening
  year_is zero = ap (λ (p : Part). p.book.year) (run_none readable file input) ∙ fresh_year program_year
  year_is (suc n) =
      ap (λ (p : Part). p.book.year) (run_next readable file input n)
      ∙ then_keeps is_its same_year (up_to n) (step_part file (block_at input n)) (year_is n) (part_keeps is_its same_year file (block_at input n))
    where
      is_its : Book → Type 0
      is_its book = book.year ≡ program_year

      same_year : (call : Call) (book : Book) → refusal call book owners ≡ 0 → book.year ≡ program_year → (book_after call book).year ≡ program_year
      same_year call book _ is = keeps_year call book ∙ is

  -- its hours are its blocks
  pub hours_are : (n : ℕ) → (run_to readable file input n).refusal ≡ 0 → (run_to readable file input n).book.hours ≡ n
  unfolding opening
  hours_are zero goes = ap (λ (p : Part). p.book.hours) (run_none readable file input) ∙ fresh_hours program_year
  hours_are (suc n) goes =
      let went = further n goes in
      ap (λ (p : Part). p.book.hours) (run_next readable file input n)
      ∙ ap (λ (b : Book). b.hours) (then_book (up_to n) (step_part file (block_at input n)) went.0)
      ∙ (step_goes file (block_at input n) (up_to n).book went.1).1
      ∙ ap suc (hours_are n went.0)

  pub enough_blocks : (n : ℕ) → hours_in_year program_year < n → (run_to readable file input n).refusal ≡ 0 → ⊥
  enough_blocks zero many goes = omega arith
  enough_blocks (suc n) many goes =
      let went = further n goes in
      let inside = subst (λ (year : ℕ). (up_to n).book.hours < hours_in_year year) (year_is n) (step_goes file (block_at input n) (up_to n).book went.1).0 in
      omega (arith, inside, hours_are n went.0)
