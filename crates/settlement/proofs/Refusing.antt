-- The refusal table of an event, part by part as the code finds it, and what an event answers by it.
-- Assumes nothing.
use Prim.Native.Nat.{ℕ, ◌<◌, ◌≤◌}
use mathlib.Core.Path.{◌≡◌, refl, sym, ap, ap₂, subst, ◌∙◌}
use mathlib.Core.Bool.{Bool, true, false, ◌&&◌, false≢true}
use mathlib.Core.Logic.{⊎_elim, inl, inr}
use mathlib.Core.List.{List, [], ◌∷◌, ◌++◌, append-nil}
use native.Mathlib.Decide.{ℕ_discrete}
use native.Mathlib.Omega.{arith}
use lib.Dec.{leb, ltb, eqb}
use lib.ListN.{length}
use lib.IntN.{ℤ, pos}
use borrow.Author.Tests.{leb-false, lt-ltb, eqb-true, ltb-true, not-false}
use Rattle.numbers.specs.Limits.{owners}
use Rattle.numbers.specs.Lists.{IsLowest}
use Rattle.std.specs.Prelude.{Ok, Err}
use Rattle.numbers.specs.declared.refusal.Refusal.{Refusal}
use Rattle.numbers.specs.Refusals.{Row, ◌if◌, first_refusal, answer_by, answered, number_in, record_in, refusal_of}
use Rattle.numbers.proofs.Refusals.{is_within, refusal_here, refusal_next, refusal_clear, refusal_append, refusal_rest, refusal_both, refusal_skip, refusal_never, refusal_within, refusal_most, IsNumber, is_number, low_number, within_append, within_wider, answer_accepted, answer_refused, answered_err, number_back, record_back}
use Rattle.numbers.proofs.Booleans.{both_true, neither_true}
use Rattle.calendar.specs.Almanac.{is_outside}
use Rattle.calendar.specs.Year.{hours_in_year, is_month_end}
use Rattle.rights.specs.Layout.{record_count}
use Rattle.rights.specs.Faults.{fault_at, any_fault, fault_rows}
use Rattle.rights.proofs.Faults.{rows_within, fault_from_rows, faulty_none, faulty_other, first_faulty}
use Rattle.target.specs.Target.{is_wrong_lines, lent_rows, target_refusal}
use Rattle.target.proofs.Answer.{lent_within, lent_rows_lem}
use Rattle.settlement.specs.declared.Event.{Event}
use Rattle.settlement.specs.declared.Event.TheVariants.{Hour}
use Rattle.settlement.specs.declared.Funding.{Funding}
use Rattle.settlement.specs.Book.{Book, is_spoiled}
use Rattle.settlement.specs.Events.{Settled, result_of, Call, hour_call, month_end_call, year_end_call, event_of, next_targets, hour_charges, wants, fund, demand, lines, book_after, is_out_of_turn, is_wild_amount, event_rows, input_rows, size_rows, own_rows, refusal, record_of, Answered}

-- ---- the rows that every event has

module _ (event : Event) (book : Book) (places : ℕ) where
  pub event_within : is_within 1 15 (event_rows event book places) ≡ true
  unfolding event_rows
  event_within = refl

  -- each number is a refusal's, and none is one that names a record
  event_number : IsNumber (first_refusal (event_rows event book places))
  unfolding event_rows
  event_number = is_number _ refl

  pub event_names_none : (k : ℕ) → 7 ≤ k → k ≤ 8 → first_refusal (event_rows event book places) ≡ k → ⊥
  unfolding event_rows
  event_names_none k low high is = by_number (ℕ_discrete k 7)
    where
      by_number : Dec (k ≡ 7) → ⊥
      by_number (yes e) = refusal_never 7 (event_rows event book places) (omega arith) refl (is ∙ e)
      by_number (no other) = refusal_never 8 (event_rows event book places) (omega arith) refl (is ∙ omega arith)

  -- none of them holds
  pub event_clear : first_refusal (event_rows event book places) ≡ 0
      → (is_spoiled book ≡ false)
      × (book.ended ≡ false)
      × (is_out_of_turn event book ≡ false)
      × (places ≡ owners)
      × (is_outside book.year ≡ false)
  unfolding event_rows
  event_clear clear =
      let r0 = refusal_clear 15 (is_outside book.year) _ (omega arith) clear in
      let r1 = refusal_clear 1 (is_spoiled book) _ (omega arith) r0.1 in
      let r2 = refusal_clear 2 book.ended _ (omega arith) r1.1 in
      let r3 = refusal_clear 3 (is_out_of_turn event book) _ (omega arith) r2.1 in
      let r4 = refusal_clear 4 _ [] (omega arith) r3.1 in
      (r1.0, r2.0, r3.0, eqb-true places owners (not-false (eqb places owners) r4.0), r0.0)

-- the hour of a book in turn is one of the year
pub in_turn : (book : Book) → is_out_of_turn Hour book ≡ false
    → (is_month_end book.year book.hours book.months ≡ false) × (book.hours < hours_in_year book.year)
unfolding is_out_of_turn
in_turn book clear =
    let both = neither_true (is_month_end book.year book.hours book.months) (leb (hours_in_year book.year) book.hours) clear in
    (both.0, leb-false (hours_in_year book.year) book.hours both.1)

-- ---- from the rows of every event to its own

module _ (call : Call) (book : Book) (places : ℕ) where
  abbrev early : ℕ
  early = first_refusal (event_rows (event_of call) book places)

  pub from_event : (early ≡ 0 → ⊥) → early ≡ refusal call book places
  unfolding refusal
  from_event some = sym (refusal_append (event_rows (event_of call) book places) (own_rows call book) some)

  pub from_own : early ≡ 0 → refusal call book places ≡ first_refusal (own_rows call book)
  unfolding refusal
  from_own clear =
      refusal_rest 1 15 (event_rows (event_of call) book places) (own_rows call book) (omega arith)
      (event_within (event_of call) book places) clear

  -- an event with no rows of its own
  pub event_alone : own_rows call book ≡ [] → early ≡ refusal call book places
  unfolding refusal
  event_alone none =
      ap first_refusal
      (sym
      (ap (λ (rows : List Row). event_rows (event_of call) book places ++ rows) none ∙ append-nil (event_rows (event_of call) book places)))

  -- an accepted call
  pub accepted_early : refusal call book places ≡ 0 → early ≡ 0
  unfolding refusal
  accepted_early clear =
      (refusal_both 1 15 (event_rows (event_of call) book places) (own_rows call book) (omega arith)
      (event_within (event_of call) book places) clear).0

-- ---- an hour's input: the rows of what is lent, the amount's, the records'

module _ (year : ℕ) (file : List ℕ) (prices : List ℤ) (collected : ℤ) where
  abbrev lent : ℕ
  lent = first_refusal (lent_rows file prices)

  abbrev faults : List Row
  faults = fault_rows year (length prices) file

  abbrev input : ℕ
  input = first_refusal (input_rows year file prices collected)

  pub input_within : is_within 4 8 (input_rows year file prices collected) ≡ true
  unfolding input_rows
  input_within =
      within_append 4 8 (lent_rows file prices) _ (within_wider 4 5 4 8 (lent_rows file prices) (omega arith) (omega arith) (lent_within file prices))
      (within_wider 7 8 4 8 faults (omega arith) (omega arith) (rows_within year (length prices) file))

  from_lent : (lent ≡ 0 → ⊥) → input ≡ lent
  unfolding input_rows
  from_lent some = refusal_append (lent_rows file prices) _ some

  past_lent : lent ≡ 0 → input ≡ first_refusal ((6 if is_wild_amount collected) ∷ faults)
  unfolding input_rows
  past_lent clear = refusal_rest 4 5 (lent_rows file prices) _ (omega arith) (lent_within file prices) clear

  -- an amount that is not refused
  pub calm_amount : input ≡ 0 → is_wild_amount collected ≡ false
  unfolding input_rows
  calm_amount clear =
      let rest = (refusal_both 4 5 (lent_rows file prices) _ (omega arith) (lent_within file prices) clear).1 in
      (refusal_clear 6 (is_wild_amount collected) faults (omega arith) rest).0

  -- a target call over 64 lines, in an hour of the year
  module _ (hour : ℕ) (within : is_outside year ≡ false) (inside : hour < hours_in_year year) where
    abbrev number : ℕ
    number = target_refusal year file prices hour owners

    called : number ≡ first_refusal (lent_rows file prices ++ faults)
    called = lent_rows_lem year file prices hour owners within inside refl

    called_lent : (lent ≡ 0 → ⊥) → number ≡ lent
    called_lent some = called ∙ refusal_append (lent_rows file prices) faults some

    called_faults : lent ≡ 0 → number ≡ first_refusal faults
    called_faults clear = called ∙ refusal_rest 4 5 (lent_rows file prices) faults (omega arith) (lent_within file prices) clear

    -- a number below 6 comes from what is lent, and any other from the records
    pub before_amount : (ltb 0 number && ltb number 6) ≡ true → number ≡ input
    before_amount test = by_lent (ℕ_discrete lent 0)
      where
        by_lent : Dec (lent ≡ 0) → number ≡ input
        by_lent (no some) = called_lent some ∙ sym (from_lent some)
        by_lent (yes clear) =
            let both = both_true (ltb 0 number) (ltb number 6) test in
            absurd
            (⊎_elim (λ none. omega (arith, ltb-true 0 number both.0, called_faults clear)) (λ high. omega (arith, ltb-true number 6 both.1, called_faults clear))
            (refusal_within 7 8 faults (rows_within year (length prices) file)))

    lent_clear : (ltb 0 number && ltb number 6) ≡ false → lent ≡ 0
    lent_clear test = by_lent (ℕ_discrete lent 0)
      where
        by_lent : Dec (lent ≡ 0) → lent ≡ 0
        by_lent (yes clear) = clear
        by_lent (no some) =
            let most = refusal_most 4 5 (lent_rows file prices) (lent_within file prices) in
            let same = called_lent some in
            absurd
            (false≢true
            (sym test ∙ ap₂ (λ (a b : Bool). a && b) (lt-ltb 0 number (omega (arith, some))) (lt-ltb number 6 (omega arith))))

    pub at_amount : (ltb 0 number && ltb number 6) ≡ false → is_wild_amount collected ≡ true → 6 ≡ input
    at_amount test wild = sym (past_lent (lent_clear test) ∙ refusal_here 6 faults wild)

    pub past_amount : (ltb 0 number && ltb number 6) ≡ false → is_wild_amount collected ≡ false → number ≡ input
    past_amount test calm =
        called_faults (lent_clear test) ∙ sym (past_lent (lent_clear test) ∙ refusal_next 6 faults calm)

-- ---- an hour's own rows: its input, then its size

module _ (file : List ℕ) (prices : List ℤ) (collected : ℤ) (book : Book) where
  abbrev call : Call
  call = hour_call file prices collected

  abbrev sizes : List Row
  sizes = size_rows book (fund call book) (wants call book) (hour_charges (next_targets file prices book))

  pub size_within : is_within 9 10 sizes ≡ true
  unfolding size_rows
  size_within = refl

  pub own_within : is_within 4 10 (own_rows call book) ≡ true
  unfolding own_rows
  own_within =
      within_append 4 10 (input_rows book.year file prices collected) sizes
      (within_wider 4 8 4 10 (input_rows book.year file prices collected) (omega arith) (omega arith) (input_within book.year file prices collected))
      (within_wider 9 10 4 10 sizes (omega arith) (omega arith) size_within)

  pub own_input : (input book.year file prices collected ≡ 0 → ⊥) → input book.year file prices collected ≡ first_refusal (own_rows call book)
  unfolding own_rows
  own_input some = sym (refusal_append (input_rows book.year file prices collected) sizes some)

  pub own_size : input book.year file prices collected ≡ 0 → first_refusal (own_rows call book) ≡ first_refusal sizes
  unfolding own_rows
  own_size clear =
      refusal_rest 4 8 (input_rows book.year file prices collected) sizes (omega arith) (input_within book.year file prices collected) clear

  -- 7 and 8 come only where some record has the fault
  fault_refused : (places k : ℕ) → 7 ≤ k → k ≤ 8 → refusal call book places ≡ k → any_fault book.year (length prices) file k ≡ true
  unfolding input_rows
  fault_refused places k low high is =
      by_early (ℕ_discrete (early call book places) 0)
    where
      from_records : first_refusal ((6 if is_wild_amount collected) ∷ faults book.year file prices collected) ≡ k → any_fault book.year (length prices) file k ≡ true
      from_records is =
          fault_from_rows book.year (length prices) file k (λ e. omega arith)
          (refusal_skip k 6 (is_wild_amount collected) (faults book.year file prices collected) (λ e. omega arith) is)

      by_lent : Dec (lent book.year file prices collected ≡ 0) → input book.year file prices collected ≡ k → any_fault book.year (length prices) file k ≡ true
      by_lent (yes clear) is = from_records (sym (past_lent book.year file prices collected clear) ∙ is)
      by_lent (no some) is =
          absurd
          (omega (arith, from_lent book.year file prices collected some, refusal_most 4 5 (lent_rows file prices) (lent_within file prices)))

      by_input : Dec (input book.year file prices collected ≡ 0) → first_refusal (own_rows call book) ≡ k → any_fault book.year (length prices) file k ≡ true
      by_input (no some) is = by_lent (ℕ_discrete (lent book.year file prices collected) 0) (own_input some ∙ is)
      by_input (yes clear) is =
          absurd
          (⊎_elim (λ none. omega (arith, own_size clear)) (λ late. omega (arith, own_size clear)) (refusal_within 9 10 sizes size_within))

      by_early : Dec (early call book places ≡ 0) → any_fault book.year (length prices) file k ≡ true
      by_early (yes clear) = by_input (ℕ_discrete (input book.year file prices collected) 0) (sym (from_own call book places clear) ∙ is)
      by_early (no some) = absurd (event_names_none (event_of call) book places k low high (from_event call book places some ∙ is))

-- ---- every call

pub own_rows_within : (call : Call) (book : Book) → is_within 4 10 (own_rows call book) ≡ true
unfolding own_rows
own_rows_within (hour_call file prices collected) book = own_within file prices collected book
own_rows_within month_end_call book = refl
own_rows_within year_end_call book = refl

-- a book that is not spoiled is never refused with 1: no row but the first has that number
pub never_1 : (call : Call) (book : Book) (places : ℕ) → is_spoiled book ≡ false → refusal call book places ≡ 1 → ⊥
unfolding refusal event_rows
never_1 call book places sane is =
    let rows = (2 if book.ended) ∷ (3 if is_out_of_turn (event_of call) book) ∷ (4 if is_wrong_lines places) ∷ own_rows call book in
    let within = within_wider 4 10 2 10 (own_rows call book) (omega arith) (omega arith) (own_rows_within call book) in
    let after_year = refusal_skip 1 15 (is_outside book.year) ((1 if is_spoiled book) ∷ rows) (λ e. omega arith) is in
    ⊎_elim (λ none. omega (arith, refusal_next 1 rows sane)) (λ high. omega (arith, refusal_next 1 rows sane)) (refusal_within 2 10 rows within)

-- a book of one of the calendar's years with 15 neither, nor with any number above 10
pub refusal_most_lem : (call : Call) (book : Book) (places : ℕ) → is_outside book.year ≡ false → refusal call book places ≤ 10
unfolding refusal event_rows
refusal_most_lem call book places within =
    let rows = (1 if is_spoiled book) ∷ (2 if book.ended) ∷ (3 if is_out_of_turn (event_of call) book) ∷ (4 if is_wrong_lines places) ∷ own_rows call book in
    let most = refusal_most 1 10 rows (within_wider 4 10 1 10 (own_rows call book) (omega arith) (omega arith) (own_rows_within call book)) in
    omega (arith, refusal_next 15 rows within)

pub never_15 : (call : Call) (book : Book) (places : ℕ) → is_outside book.year ≡ false → refusal call book places ≡ 15 → ⊥
never_15 call book places within is = omega (arith, refusal_most_lem call book places within)

-- and a book of any other year is always refused with 15, "before any other check"
pub always_15 : (call : Call) (book : Book) (places : ℕ) → is_outside book.year ≡ true → refusal call book places ≡ 15
unfolding refusal event_rows
always_15 _ book places outside = refusal_here 15 _ outside

-- every number of an event's table is a refusal's
refusal_number : (call : Call) (book : Book) (places : ℕ) → IsNumber (refusal call book places)
refusal_number call book places = by_early (ℕ_discrete (early call book places) 0)
  where
    by_early : Dec (early call book places ≡ 0) → IsNumber (refusal call book places)
    by_early (yes clear) =
        subst IsNumber (sym (from_own call book places clear))
        (low_number _ (omega (arith, refusal_most 4 10 (own_rows call book) (own_rows_within call book))))
    by_early (no some) = subst IsNumber (from_event call book places some) (event_number (event_of call) book places)

-- ---- the record number

-- a refusal below 7 names none
pub record_none : (call : Call) (year number : ℕ) → number < 7 → record_of call year number ≡ 0
unfolding record_of
record_none (hour_call file prices collected) year k low = faulty_none year (length prices) file k low
record_none month_end_call year k low = refl
record_none year_end_call year k low = refl

-- any refusal but 7 and 8 names none
pub record_other : (call : Call) (year number : ℕ) → (number ≡ 7 → ⊥) → (number ≡ 8 → ⊥) → record_of call year number ≡ 0
unfolding record_of
record_other (hour_call file prices collected) year k not_7 not_8 = faulty_other year (length prices) file k not_7 not_8
record_other month_end_call year k not_7 not_8 = refl
record_other year_end_call year k not_7 not_8 = refl

-- an hour refused with 7 or 8 names "the lowest one with that fault, all earlier records being free of it"
pub names_first : (file : List ℕ) (prices : List ℤ) (collected : ℤ) (book : Book) (places k : ℕ) → 7 ≤ k → k ≤ 8
    → refusal (hour_call file prices collected) book places ≡ k
    → IsLowest (fault_at book.year (length prices) file k) (record_count file) (record_of (hour_call file prices collected) book.year k)
unfolding record_of
names_first file prices collected book places k low high is =
    first_faulty book.year (length prices) file k low high (fault_refused file prices collected book places k low high is)

-- ---- what an event answers

module _ (call : Call) (book : Book) (lent : List ℤ) where
  abbrev table : ℕ
  table = refusal call book (length lent)

  -- a refused one: what it answers has the number and the record of the table
  pub refused_answer : {A : Type 0} (number faulty : ℕ) (value : A) {refusal : Refusal} → answered number faulty value ≡ Err refusal
      → number ≡ table → faulty ≡ record_of call book.year number → Answered call book lent (result_of (Err refusal) book) lent
  refused_answer number faulty value {refusal} is e names =
      record {
        gives =
            λ i.
            record {
              refusal = (back ∙ e) i;
              faulty = (named ∙ names ∙ ap (record_of call book.year) e) i;
              fund = sym (answer_refused _ (fund call book) (pos 0) none) i;
              demand = sym (answer_refused _ (demand call book) 0 none) i;
              book = sym (answer_refused _ (book_after call book) book none) i;
            };
        writes = sym (answer_refused _ (lines call book) lent none);
      }
    where
      some : (0 < number) × (refusal ≡ refusal_of number faulty)
      some = answered_err number faulty value is

      has_number : IsNumber number → number_in (refusal_of number faulty) ≡ number
      has_number (inl none) = absurd (omega (arith, some.0))
      has_number (inr has) = number_back number faulty has

      back : number_in refusal ≡ number
      back = ap number_in some.1 ∙ has_number (subst IsNumber (sym e) (refusal_number call book (length lent)))

      named : record_in refusal ≡ faulty
      named = ap record_in some.1 ∙ record_back number faulty (λ not_7 not_8. names ∙ record_other call book.year number not_7 not_8)

      none : table ≡ 0 → ⊥
      none z = omega (arith, some.0, e ∙ z)

  -- an accepted one
  pub accepted_answer : (funding : Funding) (after_book : Book) (after : List ℤ) → refusal call book (length lent) ≡ 0
      → funding ≡ record { fund = fund call book; demand = demand call book } → after_book ≡ book_after call book
      → after ≡ lines call book → Answered call book lent (result_of (Ok funding) after_book) after
  accepted_answer funding after_book after z f b written =
      record {
        gives =
            λ i.
            record {
              refusal = sym z i;
              faulty = sym (record_none call book.year (refusal call book (length lent)) (omega (arith, z))) i;
              fund = (ap (λ (x : Funding). x.fund) f ∙ sym (answer_accepted _ (fund call book) (pos 0) z)) i;
              demand = (ap (λ (x : Funding). x.demand) f ∙ sym (answer_accepted _ (demand call book) 0 z)) i;
              book = (b ∙ sym (answer_accepted _ (book_after call book) book z)) i;
            };
        writes = written ∙ sym (answer_accepted _ (lines call book) lent z);
      }

-- the parts of an answer
module _ {call : Call} {book : Book} {lent : List ℤ} {result : Settled} {after : List ℤ} (answered : Answered call book lent result after) where
  pub gives_number : result.refusal ≡ refusal call book (length lent)
  gives_number = ap (λ (r : Settled). r.refusal) answered.gives

  pub gives_record : result.faulty ≡ record_of call book.year (refusal call book (length lent))
  gives_record = ap (λ (r : Settled). r.faulty) answered.gives

  pub gives_fund : result.fund ≡ answer_by (refusal call book (length lent)) (fund call book) (pos 0)
  gives_fund = ap (λ (r : Settled). r.fund) answered.gives

  pub gives_demand : result.demand ≡ answer_by (refusal call book (length lent)) (demand call book) 0
  gives_demand = ap (λ (r : Settled). r.demand) answered.gives

  pub gives_book_lem : result.book ≡ answer_by (refusal call book (length lent)) (book_after call book) book
  gives_book_lem = ap (λ (r : Settled). r.book) answered.gives
