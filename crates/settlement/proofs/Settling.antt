-- An hour on a book: refused by the rows of every event, by its input or by its size, or settled.
-- Assumes nothing.
use Prim.Native.Nat.{ℕ, ◌+◌, ◌≤◌, ◌<◌, ◌^◌}
use mathlib.Core.Path.{◌≡◌, refl, sym, ap, ap₂, subst, ◌∙◌}
use mathlib.Core.Bool.{false}
use mathlib.Core.List.{List}
use native.Mathlib.Omega.{arith}
use lib.ListN.{length, get_or}
use lib.IntN.{ℤ, ◌+ℤ◌}
use Rattle.std.proofs.Common.{w64, FitsSigned, to_z, of_z}
use Rattle.std.proofs.lemmas.Int.{to_z-of_z}
use Rattle.std.specs.Prelude.{Result, Ok, Err}
use Rattle.numbers.specs.declared.refusal.Refusal.{Refusal}
use Rattle.numbers.specs.Limits.{owners, most_cents}
use Rattle.numbers.specs.Lists.{total}
use Rattle.numbers.specs.Refusals.{Row, answered, first_refusal}
use Rattle.numbers.proofs.Counts.{get_or_le_total}
use Rattle.numbers.proofs.Refusals.{refusal_never, answered_err, answered_ok}
use Rattle.calendar.specs.Almanac.{is_outside}
use Rattle.calendar.specs.Year.{hours_in_year}
use Rattle.rights.specs.Faults.{faulty_record}
use Rattle.rights.proofs.Faults.{faulty_other}
use Rattle.target.specs.Target.{targets}
use Rattle.settlement.specs.declared.Event.TheVariants.{Hour}
use Rattle.settlement.specs.declared.payment.Paid.{Paid}
use Rattle.settlement.specs.Book.{Book, is_spoiled, all_shortfalls}
use Rattle.settlement.specs.Events.{Call, hour_call, next_targets, hour_wants, hour_charges, hour_fund, wants, fund, demand, payout, hour_lines, lines, added_to, book_after_hour, book_after, is_wild_amount, event_rows, input_rows, size_rows, refusal, record_of, result_of, Answered}
use Rattle.settlement.specs.InnerContracts.{paid_from, carry_rows}
use Rattle.settlement.proofs.NotSpoiled.{shortfalls_within, balances_within, few_hours}
use Rattle.settlement.proofs.Balances.{IsLeft, hour_in_bounds, fund_in_bounds, bounds_fit}
use Rattle.settlement.proofs.Paying.{payment_small, unpaid_small}
use Rattle.settlement.proofs.Payouts.{left_between}
use Rattle.settlement.proofs.SharingOut.{size_clear, by_carry, wants_length}
use Rattle.settlement.proofs.Refusing.{record_other, event_names_none, event_clear, in_turn, from_event, from_own, calm_amount, own_input, own_size, refused_answer, accepted_answer}

-- what the rows of every event, the hour's input and its size answer
abbrev event_answer : Book → ℕ → Result ℕ Refusal
event_answer book places = answered (first_refusal (event_rows Hour book places)) 0 (all_shortfalls book)

abbrev input_answer : ℕ → List ℕ → List ℤ → ℕ → ℤ → Result (List ℤ) Refusal
input_answer year file prices hour collected =
    answered (first_refusal (input_rows year file prices collected))
    (faulty_record year (length prices) file (first_refusal (input_rows year file prices collected)))
    (targets year file prices hour)

abbrev size_answer : ℕ → ℤ → List ℤ → Result Paid Refusal
size_answer carry collected found =
    answered (first_refusal (carry_rows carry (hour_fund collected found) (hour_wants found) (hour_charges found))) 0
    (paid_from (hour_fund collected found) (hour_wants found))

-- a book whose hour the rows of every event let pass, and as many lines as it needs
pub record Begun (book : Book) (lent : List ℤ) : Type 0 where
  pub none : first_refusal (event_rows Hour book (length lent)) ≡ 0
  pub sound : is_spoiled book ≡ false
  pub within : is_outside book.year ≡ false
  pub inside : book.hours < hours_in_year book.year
  pub long : length lent ≡ owners

pub begun : (book : Book) (lent : List ℤ) {outcome : Result ℕ Refusal} {carry : ℕ}
    → outcome ≡ event_answer book (length lent) → outcome ≡ Ok carry → Begun book lent
begun book lent is ok =
    let none = (answered_ok _ 0 (all_shortfalls book) (sym is ∙ ok)).0 in
    let clear = event_clear Hour book (length lent) none in
    record { none = none; sound = clear.0; within = clear.4; inside = (in_turn book clear.2).1; long = clear.3 }

-- all shortfalls together, as those rows have found them
pub carried : (book : Book) (lent : List ℤ) {outcome : Result ℕ Refusal} {carry : ℕ}
    → outcome ≡ event_answer book (length lent) → outcome ≡ Ok carry → carry ≡ all_shortfalls book
carried book lent is ok = (answered_ok _ 0 (all_shortfalls book) (sym is ∙ ok)).1

-- that its input lets pass too: its targets
pub record Aimed (file : List ℕ) (prices : List ℤ) (collected : ℤ) (book : Book) (lent : List ℤ) (found : List ℤ) : Type 0 where
  pub start : Begun book lent
  pub given : first_refusal (input_rows book.year file prices collected) ≡ 0
  pub found_is : found ≡ next_targets file prices book

-- and its size: what it pays
pub record Dealt (file : List ℕ) (prices : List ℤ) (collected : ℤ) (book : Book) (lent : List ℤ) (found : List ℤ) (paid : Paid) : Type 0 where
  pub aim : Aimed file prices collected book lent found
  pub fits : first_refusal (size_rows book (hour_fund collected found) (hour_wants found) (hour_charges found)) ≡ 0
  pub paid_is : paid ≡ paid_from (hour_fund collected found) (hour_wants found)

module _ (file : List ℕ) (prices : List ℤ) (collected : ℤ) (book : Book) (lent : List ℤ) where
  abbrev event : Call
  event = hour_call file prices collected

  -- refused by the rows of every event, which names no record
  pub refused_early : {outcome : Result ℕ Refusal} {why : Refusal} → outcome ≡ event_answer book (length lent) → outcome ≡ Err why
      → Answered event book lent (result_of (Err why) book) lent
  refused_early is err =
      let refused = sym is ∙ err in
      refused_answer event book lent _ 0 (all_shortfalls book) refused
      (from_event event book (length lent) (λ none. omega (arith, (answered_err _ 0 (all_shortfalls book) refused).0)))
      (sym
      (record_other event book.year _
      (λ is_7. event_names_none Hour book (length lent) 7 (omega arith) (omega arith) is_7)
      (λ is_8. event_names_none Hour book (length lent) 8 (omega arith) (omega arith) is_8)))

  -- the code's amount is read back from its bits
  module _ (start : Begun book lent) (fits : FitsSigned w64 collected) {outcome : Result (List ℤ) Refusal} (is : outcome ≡ input_answer book.year file prices book.hours (to_z w64 (of_z w64 collected))) where
    asked : outcome ≡ input_answer book.year file prices book.hours collected
    asked = is ∙ ap (input_answer book.year file prices book.hours) (to_z-of_z w64 _ fits)

    -- refused by its input
    pub refused_input : {why : Refusal} → outcome ≡ Err why → Answered event book lent (result_of (Err why) book) lent
    unfolding record_of
    refused_input err =
        let refused = sym asked ∙ err in
        refused_answer event book lent _ _ _ refused
        (own_input file prices collected book (λ none. omega (arith, (answered_err _ _ _ refused).0))
        ∙ sym (from_own event book (length lent) start.none))
        refl

    pub aimed : {found : List ℤ} → outcome ≡ Ok found → Aimed file prices collected book lent found
    aimed ok = let given = answered_ok _ _ _ (sym asked ∙ ok) in record { start = start; given = given.0; found_is = given.1 }

-- an hour with its targets
module _ {file : List ℕ} {prices : List ℤ} {collected : ℤ} {book : Book} {lent : List ℤ} {found : List ℤ} (aim : Aimed file prices collected book lent found) where
  calm : is_wild_amount collected ≡ false
  calm = calm_amount book.year file prices collected aim.given

  abbrev size : ℕ
  size = first_refusal (size_rows book (hour_fund collected found) (hour_wants found) (hour_charges found))

  size_is : size ≡ refusal (hour_call file prices collected) book (length lent)
  unfolding fund wants
  size_is =
      ap (λ (ts : List ℤ). first_refusal (size_rows book (hour_fund collected ts) (hour_wants ts) (hour_charges ts))) aim.found_is
      ∙ sym (from_own (hour_call file prices collected) book (length lent) aim.start.none ∙ own_size file prices collected book aim.given)

  size_names : 0 ≡ record_of (hour_call file prices collected) book.year size
  unfolding record_of size_rows
  size_names = sym (faulty_other _ _ _ _ (λ e. refusal_never 7 _ (omega arith) refl e) (λ e. refusal_never 8 _ (omega arith) refl e))

  module _ (fits : FitsSigned w64 collected) where
    module _ (carry : ℕ) (known : carry ≡ all_shortfalls book) where
      pub may_share : (carry ≤ most_cents) × (is_wild_amount (to_z w64 (of_z w64 collected)) ≡ false)
      may_share = (omega (arith, shortfalls_within book aim.start.sound), ap is_wild_amount (to_z-of_z w64 _ fits) ∙ calm)

      module _ (cells : length book.monthshort ≡ owners) {outcome : Result Paid Refusal} (is : outcome ≡ size_answer carry (to_z w64 (of_z w64 collected)) found) where
        shared : outcome ≡ answered size 0 (paid_from (hour_fund collected found) (hour_wants found))
        shared =
            is
            ∙ ap₂ (λ (n : ℕ) (z : ℤ). size_answer n z found) known (to_z-of_z w64 _ fits)
            ∙ ap (λ (rows : List Row). answered (first_refusal rows) 0 (paid_from (hour_fund collected found) (hour_wants found)))
            (sym (by_carry book (hour_fund collected found) (hour_wants found) (hour_charges found) cells))

        -- refused by its size
        pub refused_size : {why : Refusal} → outcome ≡ Err why
            → Answered (hour_call file prices collected) book lent (result_of (Err why) book) lent
        refused_size err = refused_answer (hour_call file prices collected) book lent _ 0 _ (sym shared ∙ err) size_is size_names

        pub dealt : {paid : Paid} → outcome ≡ Ok paid → Dealt file prices collected book lent found paid
        dealt ok = let given = answered_ok _ 0 _ (sym shared ∙ ok) in record { aim = aim; fits = given.0; paid_is = given.1 }

-- an hour with what it pays
module _ {file : List ℕ} {prices : List ℤ} {collected : ℤ} {book : Book} {lent : List ℤ} {found : List ℤ} {paid : Paid} (deal : Dealt file prices collected book lent found paid) where
  small : (total (hour_wants found) ≤ most_cents) × (hour_charges found ≤ most_cents)
  small = let clear = size_clear _ _ _ _ deal.fits in (clear.0, clear.1)

  pub payments_small : (i : ℕ) → get_or paid.payments i 0 ≤ most_cents
  payments_small i = rw deal.paid_is (payment_small _ _ most_cents small.0 i)

  -- what is unpaid leaves room in the month's cells
  pub cells_fit : (i : ℕ) → get_or book.monthshort i 0 + get_or paid.unpaid i 0 < 2 ^ 64
  cells_fit i =
      let unpaid = unpaid_small (hour_wants found) (payout (hour_fund collected found) (hour_wants found)).payments (wants_length found) in
      omega
      (arith, unpaid, small.0, shortfalls_within book deal.aim.start.sound, ap (λ (x : Paid). total x.unpaid) deal.paid_is, get_or_le_total book.monthshort i, get_or_le_total paid.unpaid i)

  pub has_room : (book.hours + 1 < 2 ^ 64) × FitsSigned w64 (book.monthbalance +ℤ paid.left)
  has_room =
      let bounded = balances_within book deal.aim.start.sound in
      let few = few_hours book deal.aim.start.sound in
      let rest = ap (λ (x : Paid). x.left) deal.paid_is in
      let left =
      hour_in_bounds book.hours book.monthbalance (hour_fund collected found) paid.left bounded.month
      (fund_in_bounds collected (hour_charges found) (calm deal.aim) small.1)
      (subst (IsLeft (hour_fund collected found)) (sym rest) (left_between (hour_fund collected found) (hour_wants found))) in
      (omega arith, bounds_fit (book.hours + 1) (book.monthbalance +ℤ paid.left) (omega arith) left)

  shared_out : paid ≡ paid_from (hour_fund collected (next_targets file prices book)) (hour_wants (next_targets file prices book))
  shared_out = deal.paid_is ∙ ap (λ (ts : List ℤ). paid_from (hour_fund collected ts) (hour_wants ts)) deal.aim.found_is

  pub hour_after : book_after_hour book (added_to book.monthshort paid.unpaid) paid.left ≡ book_after (hour_call file prices collected) book
  unfolding fund wants book_after
  hour_after = ap (λ (x : Paid). book_after_hour book (added_to book.monthshort x.unpaid) x.left) shared_out

  pub settled_hour : {after : List ℤ} → after ≡ hour_lines found paid.payments
      → Answered (hour_call file prices collected) book lent (result_of (Ok paid.funding) (book_after (hour_call file prices collected) book)) after
  unfolding fund demand wants lines
  settled_hour written =
      accepted_answer (hour_call file prices collected) book lent _ _ _ (sym (size_is deal.aim) ∙ deal.fits)
      (ap (λ (x : Paid). x.funding) shared_out) refl
      (written ∙ ap₂ hour_lines deal.aim.found_is (ap (λ (x : Paid). x.payments) shared_out))
