-- The year never gets stuck: at every book that a list of calls from a fresh book can reach, one event is due until the year end, and
-- an event that is due is refused by nothing but its own input.
-- Assumes nothing.
use Prim.Native.Nat.{ℕ, ◌+◌, ◌≤◌}
use mathlib.Core.Path.{◌≡◌, refl, sym, ap, subst, ◌∙◌}
use mathlib.Core.Bool.{Bool, true, false, cond, not, ◌||◌, false≢true}
use mathlib.Core.Logic.{◌⊎◌}
use mathlib.Core.List.{List, ◌∷◌}
use native.Mathlib.Nat.{le_antisymm}
use native.Mathlib.Omega.{arith}
use lib.Dec.{leb, ltb, eqb}
use borrow.Author.Tests.{leb-true, leb-false, ltb-true, ltb-false, not-true}
use Rattle.numbers.specs.Limits.{owners}
use Rattle.numbers.specs.Refusals.{◌if◌, first_refusal}
use Rattle.numbers.proofs.Booleans.{both_true, neither_true}
use Rattle.numbers.proofs.Refusals.{refusal_none, refusal_here, refusal_next, refusal_within}
use Rattle.calendar.specs.Almanac.{is_outside}
use Rattle.calendar.specs.Year.{hours_in_year, months_in_year, month_end, is_month_end}
use Rattle.calendar.proofs.MonthEnds.{within_year}
use Rattle.target.specs.Target.{is_wrong_lines}
use Rattle.settlement.specs.Book.{Book}
use Rattle.settlement.specs.Events.{Call, hour_call, month_end_call, year_end_call, event_of, is_out_of_turn, is_due, event_rows, own_rows, refusal}
use Rattle.settlement.specs.Ledger.{Asked, book_at, ledger_of}
use Rattle.settlement.specs.Progress.{due_events, GoesOn}
use Rattle.settlement.proofs.Sane.{Sane, not_spoiled}
use Rattle.settlement.proofs.Refusing.{own_rows_within}
use Rattle.settlement.proofs.KeptHour.{still_ahead}
use Rattle.settlement.proofs.OneLedger.{is_ledger}
use Rattle.settlement.proofs.ClaimHolds.{kept_all}

-- one event is due, by the three tests that decide: the month's end, the year's hours, the open months
abbrev due_by : (closing whole more : Bool) → ℕ
due_by closing whole more =
    cond (not (false || (closing || whole))) 1 0 + cond (not (false || not closing)) 1 0 + cond (not (false || more)) 1 0

module _ (book : Book) (sane : Sane book) where
  abbrev closing : Bool
  closing = is_month_end book.year book.hours book.months

  abbrev whole : Bool
  whole = leb (hours_in_year book.year) book.hours

  abbrev more : Bool
  more = ltb book.months months_in_year

  one_due : (c w m : Bool) → closing ≡ c → whole ≡ w → more ≡ m → due_by c w m ≡ 1
  one_due true true true _ _ _ = refl
  one_due true false true _ _ _ = refl
  one_due true w false c _ m =
      absurd (false≢true (sym m ∙ (both_true more (eqb book.hours (month_end book.year book.months)) c).0))
  one_due false false true _ _ _ = refl
  one_due false true true c w m =
      let open_month = ltb-true book.months months_in_year m in
      absurd
      (omega
      (arith, leb-true (hours_in_year book.year) book.hours w, sane.before_next open_month, within_year book.year book.months open_month, still_ahead book c open_month))
  one_due false true false _ _ _ = refl
  one_due false false false _ w m =
      let all = le_antisymm sane.months_most (ltb-false book.months months_in_year m) in
      absurd (omega (arith, leb-false (hours_in_year book.year) book.hours w, sane.full all))

  due_count : book.ended ≡ false → due_events book ≡ 1
  unfolding is_due is_out_of_turn
  due_count open_book = rw open_book (one_due closing whole more refl refl refl)

  -- an event that is due: its lines and its own rows decide
  due_rows : (call : Call) (places : ℕ) → is_due (event_of call) book ≡ true
      → refusal call book places ≡ first_refusal ((4 if is_wrong_lines places) ∷ own_rows call book)
  unfolding is_due refusal event_rows
  due_rows call places due =
      let parts = neither_true book.ended (is_out_of_turn (event_of call) book) (not-true (book.ended || is_out_of_turn (event_of call) book) due) in
      refusal_next 15 _ sane.in_range ∙ refusal_next 1 _ (not_spoiled book sane) ∙ refusal_next 2 _ parts.0 ∙ refusal_next 3 _ parts.1

  -- and with 64 lines its own rows alone
  pub due_own : (call : Call) (places : ℕ) → is_due (event_of call) book ≡ true → places ≡ owners
      → refusal call book places ≡ first_refusal (own_rows call book)
  due_own call places due all =
      ap (refusal call book) all ∙ due_rows call owners due ∙ refusal_next 4 (own_rows call book) refl

  ended_book : book.ended ≡ true → (call : Call) (places : ℕ) → refusal call book places ≡ 2
  unfolding refusal event_rows
  ended_book ended call places = refusal_next 15 _ sane.in_range ∙ refusal_next 1 _ (not_spoiled book sane) ∙ refusal_here 2 _ ended

  four_to_ten : (call : Call) (places : ℕ) → is_due (event_of call) book ≡ true
      → (refusal call book places ≡ 0) ⊎ ((4 ≤ refusal call book places) × (refusal call book places ≤ 10))
  four_to_ten call places due =
      subst (λ (n : ℕ). (n ≡ 0) ⊎ ((4 ≤ n) × (n ≤ 10))) (sym (due_rows call places due))
      (refusal_within 4 10 ((4 if is_wrong_lines places) ∷ own_rows call book) (own_rows_within call book))

  pub sane_goes_on : GoesOn book
  unfolding own_rows
  sane_goes_on =
      record {
        one = due_count;
        month_end = λ due. due_own month_end_call owners due refl ∙ refusal_none;
        year_end = λ due. due_own year_end_call owners due refl ∙ refusal_none;
        hour = λ due file prices collected places. due_rows (hour_call file prices collected) places due;
        hour_number = λ due file prices collected places. four_to_ten (hour_call file prices collected) places due;
        over = ended_book;
      }

pub goes_on_lem : (year : ℕ) → is_outside year ≡ false → (calls : List Asked) → GoesOn (book_at year (ledger_of year calls))
goes_on_lem year within calls =
    sane_goes_on (book_at year (ledger_of year calls)) (kept_all year within (ledger_of year calls) (is_ledger year calls)).sane
