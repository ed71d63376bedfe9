-- A whole year without rights is settled to its end, whatever its prices and amounts, if they are legal.
-- Assumes nothing.
use Prim.Native.Nat.{ℕ, zero, suc, ◌+◌, ◌≤◌, ◌<◌}
use mathlib.Core.Path.{◌≡◌, refl, sym, ap, ap₂, ◌∙◌}
use mathlib.Core.Bool.{Bool, true, false, cond, not, ◌||◌}
use mathlib.Core.List.{List, [], ◌∷◌}
use native.Mathlib.Nat.{le_refl}
use native.Mathlib.Numerals.{add-one}
use native.Mathlib.Omega.{arith}
use lib.Dec.{leb, ltb}
use lib.ListN.{length}
use lib.IntN.{ℤ, pos}
use borrow.Author.Tests.{lt-leb}
use Rattle.numbers.specs.Limits.{owners, most_cents}
use Rattle.numbers.specs.Lists.{total, list_below}
use Rattle.numbers.specs.Refusals.{first_refusal}
use Rattle.numbers.specs.Signs.{positive, negative}
use Rattle.numbers.proofs.Counts.{list_below_ext}
use Rattle.numbers.proofs.Refusals.{refusal_none, refusal_next, refusal_rest, answer_accepted}
use Rattle.calendar.specs.Almanac.{is_outside, is_among}
use Rattle.calendar.specs.Year.{hours_in_year, months_in_year, month_ends, is_month_end, month_of}
use Rattle.calendar.proofs.MonthEnds.{month_open, month_ends_lem, month_goes_on, no_month_yet, all_months}
use Rattle.rights.proofs.Faults.{empty_length, empty_faults, no_faults}
use Rattle.target.specs.Target.{targets, lent_rows}
use Rattle.target.proofs.Answer.{lent_within, lent_accepted, target_at, no_rights}
use Rattle.settlement.specs.declared.Event.{Event}
use Rattle.settlement.specs.declared.Event.TheVariants.{Hour, MonthEnd, YearEnd}
use Rattle.settlement.specs.Book.{Book, fresh, all_shortfalls}
use Rattle.settlement.specs.Events.{Call, hour_call, month_end_call, year_end_call, next_targets, target_of, hour_wants, hour_charges, wants, fund, paid, unpaid_of, book_after, is_out_of_turn, is_due, is_wild_amount, input_rows, size_rows, own_rows, refusal}
use Rattle.settlement.specs.Ledger.{Asked, book_at, ledger_of}
use Rattle.settlement.specs.WholeYear.{YearInput, IsLegal, hour_asked, month_asked, year_asked, calls_to, year_calls, AllAccepted, IsWholeYear}
use Rattle.settlement.proofs.Sane.{Sane}
use Rattle.settlement.proofs.Shares.{IsLong, wants_long}
use Rattle.settlement.proofs.Paying.{unpaid_small}
use Rattle.settlement.proofs.SharingOut.{by_carry, all_within}
use Rattle.settlement.proofs.Refusing.{own_size}
use Rattle.settlement.proofs.Kept.{Kept}
use Rattle.settlement.proofs.ClaimHolds.{kept_all}
use Rattle.settlement.proofs.OneLedger.{is_ledger}
use Rattle.settlement.proofs.NeverStuck.{due_own}

-- ---- an hour without rights

-- a sum over all owners of nothing
none_in_all : (f : ℕ → ℕ) → ((owner : ℕ) → owner < owners → f owner ≡ 0) → total (list_below f owners) ≡ 0
unfolding total list_below
none_in_all f none = ap total (list_below_ext f (λ _. 0) owners none)

module _ (year : ℕ) (prices : List ℤ) (hour : ℕ) where
  no_target : (owner : ℕ) → owner < owners → target_of (targets year [] prices hour) owner ≡ pos 0
  no_target owner inside = target_at year [] prices hour owner inside ∙ no_rights year prices hour owner

  no_wants : total (hour_wants (targets year [] prices hour)) ≡ 0
  unfolding hour_wants
  no_wants = none_in_all _ (λ owner inside. ap positive (no_target owner inside))

  no_charges : hour_charges (targets year [] prices hour) ≡ 0
  unfolding hour_charges
  no_charges = none_in_all _ (λ owner inside. ap negative (no_target owner inside))

module _ (prices : List ℤ) (collected : ℤ) (book : Book) (sane : Sane book) (long : IsLong book) where
  abbrev call : Call
  call = hour_call [] prices collected

  -- nothing is wanted, so nothing is added to the shortfalls
  same_shortfalls : all_shortfalls book + total (unpaid_of (wants call book) (paid call book)) ≤ most_cents
  unfolding wants
  same_shortfalls =
      let all = wants_long call book long in
      let none = no_wants book.year prices book.hours in
      let small = unpaid_small (wants call book) (paid call book) all in
      omega (arith, sane.short_most)

  fits : first_refusal (size_rows book (fund call book) (wants call book) (hour_charges (next_targets [] prices book))) ≡ 0
  unfolding wants
  fits =
      ap first_refusal (by_carry book (fund call book) (wants call book) (hour_charges (next_targets [] prices book)) long.month)
      ∙ all_within (all_shortfalls book) (fund call book) (wants call book) (hour_charges (next_targets [] prices book))
      (omega (arith, no_wants book.year prices book.hours)) (omega (arith, no_charges book.year prices book.hours)) same_shortfalls

  clean : is_wild_amount collected ≡ false → first_refusal (lent_rows [] prices) ≡ 0 → first_refusal (input_rows book.year [] prices collected) ≡ 0
  unfolding input_rows
  clean calm lent =
      refusal_rest 4 5 (lent_rows [] prices) _ (omega arith) (lent_within [] prices) lent
      ∙ refusal_next 6 _ calm
      ∙ no_faults book.year (length prices) [] (empty_faults book.year (length prices) 7) (empty_faults book.year (length prices) 8)

-- ---- the calls of a year

-- where a book of the year stands
record Stands (year : ℕ) (book : Book) (settled closed : ℕ) : Type 0 where
  same_year : book.year ≡ year
  hours : book.hours ≡ settled
  months : book.months ≡ closed
  still_open : book.ended ≡ false

module _ (year : ℕ) (book : Book) where
  -- an event in its turn is due on an open book
  due : (event : Event) → book.ended ≡ false → is_out_of_turn event book ≡ false → is_due event book ≡ true
  unfolding is_due
  due event still_open turn = ap₂ (λ (ended untimely : Bool). not (ended || untimely)) still_open turn

  -- whether the book stands at a month's end
  closing_is : {hour month : ℕ} → Stands year book hour month → is_month_end book.year book.hours book.months ≡ is_month_end year hour month
  closing_is at = λ i. is_month_end (at.same_year i) (at.hours i) (at.months i)

  hour_due : (hour : ℕ) → hour < hours_in_year year → Stands year book hour (month_of year hour) → is_due Hour book ≡ true
  unfolding is_out_of_turn
  hour_due hour inside at =
      due Hour at.still_open
      (ap₂ (λ (closing whole : Bool). closing || whole) (closing_is at ∙ month_open year hour)
      (ap₂ (λ (of h : ℕ). leb (hours_in_year of) h) at.same_year at.hours ∙ lt-leb (hours_in_year year) hour inside))

  month_due : (hour : ℕ) → is_among (suc hour) (month_ends year) ≡ true → Stands year book (suc hour) (month_of year hour)
      → is_due MonthEnd book ≡ true
  unfolding is_out_of_turn
  month_due hour among at =
      due MonthEnd at.still_open (ap not (closing_is at ∙ (month_ends_lem year hour among).0))

  year_due : Stands year book (hours_in_year year) months_in_year → is_due YearEnd book ≡ true
  unfolding is_out_of_turn
  year_due at = due YearEnd at.still_open (ap (λ (m : ℕ). ltb m months_in_year) at.months)

module _ (year : ℕ) (within : is_outside year ≡ false) where
  -- the book after a list of calls
  abbrev book_of : List Asked → Book
  book_of calls = book_at year (ledger_of year calls)

  -- a call more that the rules accept: it gives the book of the rules
  book_next : (before : List Asked) (call : Asked) → refusal call.call (book_of before) (length call.lent) ≡ 0
      → book_of (call ∷ before) ≡ book_after call.call (book_of before)
  unfolding ledger_of book_at
  book_next before call clear = answer_accepted _ (book_after call.call (book_of before)) (book_of before) clear

  module _ (input : YearInput) (legal : IsLegal year input) (before : List Asked) where
    kept : Kept year (ledger_of year before) (book_of before)
    kept = kept_all year within (ledger_of year before) (is_ledger year before)

    hour_clear : (hour : ℕ) → hour < hours_in_year year → Stands year (book_of before) hour (month_of year hour)
        → refusal (hour_asked input hour).call (book_of before) (length (input.hour_lines hour)) ≡ 0
    hour_clear hour inside at =
        let prices = input.prices hour in
        let collected = input.collected hour in
        let book = book_of before in
        let lent = lent_accepted [] prices (legal.priced hour inside) empty_length (legal.calm hour inside) in
        let clear = clean prices collected book kept.sane kept.long (legal.amount hour inside) lent in
        due_own book kept.sane (hour_call [] prices collected) (length (input.hour_lines hour)) (hour_due year book hour inside at) (legal.hour_long hour inside)
        ∙ own_size [] prices collected book clear
        ∙ fits prices collected book kept.sane kept.long

    after_hour : (hour : ℕ) → hour < hours_in_year year → Stands year (book_of before) hour (month_of year hour)
        → Stands year (book_of (hour_asked input hour ∷ before)) (suc hour) (month_of year hour)
    unfolding book_after
    after_hour hour inside at =
        let after = book_next before (hour_asked input hour) (hour_clear hour inside at) in
        record {
          same_year = ap (λ (b : Book). b.year) after ∙ at.same_year;
          hours = ap (λ (b : Book). b.hours) after ∙ ap (◌+ 1) at.hours ∙ add-one hour;
          months = ap (λ (b : Book). b.months) after ∙ at.months;
          still_open = ap (λ (b : Book). b.ended) after ∙ at.still_open;
        }

    month_clear : (hour : ℕ) → hour < hours_in_year year → is_among (suc hour) (month_ends year) ≡ true
        → Stands year (book_of before) (suc hour) (month_of year hour)
        → refusal month_end_call (book_of before) (length (input.month_lines hour)) ≡ 0
    unfolding own_rows
    month_clear hour inside among at =
        due_own (book_of before) kept.sane month_end_call _ (month_due year (book_of before) hour among at) (legal.month_long hour inside)
        ∙ refusal_none

    after_month : (hour : ℕ) → hour < hours_in_year year → is_among (suc hour) (month_ends year) ≡ true
        → Stands year (book_of before) (suc hour) (month_of year hour)
        → Stands year (book_of (month_asked input hour ∷ before)) (suc hour) (month_of year (suc hour))
    unfolding book_after
    after_month hour inside among at =
        let after = book_next before (month_asked input hour) (month_clear hour inside among at) in
        record {
          same_year = ap (λ (b : Book). b.year) after ∙ at.same_year;
          hours = ap (λ (b : Book). b.hours) after ∙ at.hours;
          months = ap (λ (b : Book). b.months) after ∙ ap (◌+ 1) at.months ∙ sym (month_ends_lem year hour among).1;
          still_open = ap (λ (b : Book). b.ended) after ∙ at.still_open;
        }

    year_clear : Stands year (book_of before) (hours_in_year year) months_in_year
        → refusal year_end_call (book_of before) (length input.year_lines) ≡ 0
    unfolding own_rows
    year_clear at =
        due_own (book_of before) kept.sane year_end_call _ (year_due year (book_of before) at) legal.year_long ∙ refusal_none

  -- ---- hour after hour

  -- all calls are accepted, and the book stands behind so many hours
  abbrev Settles : List Asked → ℕ → Type 0
  Settles calls hour = AllAccepted (ledger_of year calls) × Stands year (book_of calls) hour (month_of year hour)

  module _ (input : YearInput) (legal : IsLegal year input) where
    -- an hour more, and the month end behind it
    one_hour : (before : List Asked) (hour : ℕ) → hour < hours_in_year year → Settles before hour → (test : Bool)
        → is_among (suc hour) (month_ends year) ≡ test
        → Settles (cond test (month_asked input hour ∷ hour_asked input hour ∷ before) (hour_asked input hour ∷ before)) (suc hour)
    unfolding ledger_of
    one_hour before hour inside earlier false e =
        let stands = after_hour input legal before hour inside earlier.1 in (
          (hour_clear input legal before hour inside earlier.1, earlier.0),
          record {
            same_year = stands.same_year;
            hours = stands.hours;
            months = stands.months ∙ sym (month_goes_on year hour e);
            still_open = stands.still_open;
          },
        )
    one_hour before hour inside earlier true e =
        let calls = hour_asked input hour ∷ before in
        let stands = after_hour input legal before hour inside earlier.1 in (
          (
            month_clear input legal calls hour inside e stands,
            (hour_clear input legal before hour inside earlier.1, earlier.0),
          ),
          after_month input legal calls hour inside e stands,
        )

    hours_settle : (hour : ℕ) → hour ≤ hours_in_year year → Settles (calls_to year input hour) hour
    unfolding calls_to ledger_of book_at fresh
    hours_settle zero to =
        (tt, record { same_year = refl; hours = refl; months = sym (no_month_yet year); still_open = refl })
    hours_settle (suc hour) to =
        one_hour (calls_to year input hour) hour (omega arith) (hours_settle hour (omega arith)) (is_among (suc hour) (month_ends year)) refl

    pub whole_year : IsWholeYear year (ledger_of year (year_calls year input))
    unfolding year_calls book_after
    whole_year =
        record {
          accepted = unfold ledger_of in (number, before.0);
          hours = sym kept_year.hours ∙ ap (λ (b : Book). b.hours) after ∙ closed.hours;
          months = sym kept_year.months ∙ ap (λ (b : Book). b.months) after ∙ closed.months;
          ended = kept_year.ended_after (ap (λ (b : Book). b.ended) after);
        }
      where
        hours : List Asked
        hours = calls_to year input (hours_in_year year)

        before : Settles hours (hours_in_year year)
        before = hours_settle (hours_in_year year) (le_refl (hours_in_year year))

        closed : Stands year (book_of hours) (hours_in_year year) months_in_year
        closed =
            record {
              same_year = before.1.same_year;
              hours = before.1.hours;
              months = before.1.months ∙ all_months year;
              still_open = before.1.still_open;
            }

        number : refusal year_end_call (book_of hours) (length input.year_lines) ≡ 0
        number = year_clear input legal hours closed

        after : book_of (year_asked input ∷ hours) ≡ book_after year_end_call (book_of hours)
        after = book_next hours (year_asked input) number

        kept_year : Kept year (ledger_of year (year_asked input ∷ hours)) (book_of (year_asked input ∷ hours))
        kept_year =
            kept_all year within (ledger_of year (year_asked input ∷ hours)) (is_ledger year (year_asked input ∷ hours))
