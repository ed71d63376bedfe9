-- How a refusal table is read, row by row.
-- Assumes nothing.
use Prim.Native.Nat.{ℕ, zero, suc, ◌<◌, ◌≤◌}
use mathlib.Core.Path.{◌≡◌, refl, sym, ap, ap₂, ◌∙◌}
use mathlib.Core.Bool.{Bool, true, false, cond, not, ◌&&◌, ◌||◌, false≢true}
use mathlib.Core.Logic.{◌⊎◌, inl, inr, ⊎_elim}
use mathlib.Core.List.{List, [], ◌∷◌, ◌++◌}
use native.Mathlib.Decide.{ℕ_discrete}
use native.Mathlib.Omega.{arith}
use lib.Dec.{leb, eqb}
use borrow.Author.Tests.{leb-true, le-leb, eqb-false, eqb-true, not-false}
use Rattle.std.specs.Prelude.{Result, Ok, Err}
use Rattle.std.specs.Result.{result_unwrap_or}
use Rattle.numbers.specs.Lists.{any_below}
use Rattle.numbers.proofs.Any.{any_miss}
use Rattle.numbers.proofs.Booleans.{both_true, neither_true}
use Rattle.numbers.specs.declared.refusal.Refusal.{Refusal}
use Rattle.numbers.specs.declared.refusal.Refusal.TheVariants.{SpoiledBook, YearOver, OutOfTurn, WrongLength, WildPrice, WildAmount, BadRight, UnpricedNode, HourTooLarge, CarryFull, WantTooLarge, NoSuchYear, TooManyWants, TotalTooLarge}
use Rattle.numbers.specs.Refusals.{Row, ◌if◌, first_refusal, answer_by, number_in, record_in, all_refusals, refusal_with, refusal_of, answered, answer_number, answer_record}

-- some row of the table has this number
abbrev pub has_number : ℕ → List Row → Bool
has_number k [] = false
has_number k ((number if test) ∷ rows) = eqb number k || has_number k rows

-- each element passes a test
abbrev pub each : {A : Type 0} → (A → Bool) → List A → Bool
each passes [] = true
each passes (x ∷ xs) = passes x && each passes xs

-- the number of a row
abbrev row_number : Row → ℕ
row_number (number if test) = number

-- every number of the table passes a test
abbrev pub each_number : (ℕ → Bool) → List Row → Bool
each_number passes = each (λ row. passes (row_number row))

-- every number of the table is from low to high
abbrev pub is_within : ℕ → ℕ → List Row → Bool
is_within low high = each_number (λ number. leb low number && leb number high)

-- of a table's first row and of the others
module _ (low high number : ℕ) (rows : List Row) (within : ((leb low number && leb number high) && is_within low high rows) ≡ true) where
  number_within : (low ≤ number) × (number ≤ high)
  number_within =
      let both = both_true (leb low number) (leb number high) (both_true (leb low number && leb number high) (is_within low high rows) within).0 in
      (leb-true low number both.0, leb-true number high both.1)

  rows_within : is_within low high rows ≡ true
  rows_within = (both_true (leb low number && leb number high) (is_within low high rows) within).1

-- two tables in a row, and wider bounds
pub within_append : (low high : ℕ) (rows more : List Row) → is_within low high rows ≡ true → is_within low high more ≡ true
    → is_within low high (rows ++ more) ≡ true
within_append low high [] more first then = then
within_append low high ((number if test) ∷ rows) more first then =
    let here = both_true (leb low number && leb number high) (is_within low high rows) first in
    ap₂ (λ (a b : Bool). a && b) here.0 (within_append low high rows more here.1 then)

pub within_wider : (low high lower higher : ℕ) (rows : List Row) → lower ≤ low → high ≤ higher → is_within low high rows ≡ true
    → is_within lower higher rows ≡ true
within_wider low high lower higher [] down up within = refl
within_wider low high lower higher ((number if test) ∷ rows) down up within =
    let here = number_within low high number rows within in
    ap₂ (λ (a b : Bool). a && b)
    (ap₂ (λ (a b : Bool). a && b) (le-leb lower number (omega arith)) (le-leb number higher (omega arith)))
    (within_wider low high lower higher rows down up (rows_within low high number rows within))

-- no row is left
pub refusal_none : first_refusal [] ≡ 0
unfolding first_refusal
refusal_none = refl

-- the first row's test holds
pub refusal_here : (number : ℕ) {test : Bool} (rows : List Row) → test ≡ true → first_refusal ((number if test) ∷ rows) ≡ number
unfolding first_refusal
refusal_here number rows holds = ap (λ (t : Bool). cond t number (first_refusal rows)) holds

-- the first row's test fails
pub refusal_next : (number : ℕ) {test : Bool} (rows : List Row) → test ≡ false → first_refusal ((number if test) ∷ rows) ≡ first_refusal rows
unfolding first_refusal
refusal_next number rows fails = ap (λ (t : Bool). cond t number (first_refusal rows)) fails

-- no row's test holds: none of the first, and none of the others
pub refusal_clear : (number : ℕ) (test : Bool) (rows : List Row) → 0 < number → first_refusal ((number if test) ∷ rows) ≡ 0
    → (test ≡ false) × (first_refusal rows ≡ 0)
unfolding first_refusal
refusal_clear number true rows positive clear = absurd (omega arith)
refusal_clear number false rows positive clear = (refl, clear)

-- a number that comes from the first rows of a table comes from the whole
pub refusal_append : (rows more : List Row) → (first_refusal rows ≡ 0 → ⊥) → first_refusal (rows ++ more) ≡ first_refusal rows
unfolding first_refusal
refusal_append [] more some = absurd (some refl)
refusal_append ((number if true) ∷ rows) more some = refl
refusal_append ((number if false) ∷ rows) more some = refusal_append rows more some

-- none comes from the first rows: the others decide
pub refusal_rest : (low high : ℕ) (rows more : List Row) → 0 < low → is_within low high rows ≡ true → first_refusal rows ≡ 0
    → first_refusal (rows ++ more) ≡ first_refusal more
unfolding first_refusal
refusal_rest low high [] more positive within clear = refl
refusal_rest low high ((number if true) ∷ rows) more positive within clear =
    absurd (omega (arith, (number_within low high number rows within).0))
refusal_rest low high ((number if false) ∷ rows) more positive within clear =
    refusal_rest low high rows more positive (rows_within low high number rows within) clear

-- none comes from the whole: none from the first rows, and none from the others
pub refusal_both : (low high : ℕ) (rows more : List Row) → 0 < low → is_within low high rows ≡ true → first_refusal (rows ++ more) ≡ 0
    → (first_refusal rows ≡ 0) × (first_refusal more ≡ 0)
refusal_both low high rows more positive within clear = by_first (ℕ_discrete (first_refusal rows) 0)
  where
    by_first : Dec (first_refusal rows ≡ 0) → (first_refusal rows ≡ 0) × (first_refusal more ≡ 0)
    by_first (yes none) = (none, sym (refusal_rest low high rows more positive within none) ∙ clear)
    by_first (no some) = absurd (some (sym (refusal_append rows more some) ∙ clear))

-- a number that is not the first row's comes from the others
pub refusal_skip : (k number : ℕ) (test : Bool) (rows : List Row) → (number ≡ k → ⊥) → first_refusal ((number if test) ∷ rows) ≡ k
    → first_refusal rows ≡ k
unfolding first_refusal
refusal_skip k number true rows other is = absurd (other is)
refusal_skip k number false rows other is = is

-- a number that no row has never comes
pub refusal_never : (k : ℕ) (rows : List Row) → 0 < k → has_number k rows ≡ false → first_refusal rows ≡ k → ⊥
refusal_never k [] positive none is = omega (arith, refusal_none)
refusal_never k ((number if test) ∷ rows) positive none is =
    let others = neither_true (eqb number k) (has_number k rows) none in
    refusal_never k rows positive others.1 (refusal_skip k number test rows (eqb-false number k others.0) is)

-- the number that comes, if one does, passes the test that every number of the table passes
pub number_passes : (passes : ℕ → Bool) (rows : List Row) → each_number passes rows ≡ true
    → (first_refusal rows ≡ 0) ⊎ (passes (first_refusal rows) ≡ true)
unfolding first_refusal
number_passes passes [] all = inl refl
number_passes passes ((number if true) ∷ rows) all = inr (both_true (passes number) (each_number passes rows) all).0
number_passes passes ((number if false) ∷ rows) all = number_passes passes rows (both_true (passes number) (each_number passes rows) all).1

-- the number that comes, if one does, is from low to high
pub refusal_within : (low high : ℕ) (rows : List Row) → is_within low high rows ≡ true
    → (first_refusal rows ≡ 0) ⊎ ((low ≤ first_refusal rows) × (first_refusal rows ≤ high))
refusal_within low high rows within =
    ⊎_elim inl
    (λ passes. let both = both_true _ _ passes in inr (leb-true low (first_refusal rows) both.0, leb-true (first_refusal rows) high both.1))
    (number_passes (λ number. leb low number && leb number high) rows within)

-- so it is at most high
pub refusal_most : (low high : ℕ) (rows : List Row) → is_within low high rows ≡ true → first_refusal rows ≤ high
refusal_most low high rows within = ⊎_elim (λ e. omega arith) (λ both. both.1) (refusal_within low high rows within)

-- an answer by the refusal number
pub answer_accepted : {A : Type 0} (refusal : ℕ) (accepted refused : A) → refusal ≡ 0 → answer_by refusal accepted refused ≡ accepted
answer_accepted refusal accepted refused e = ap (λ (r : ℕ). answer_by r accepted refused) e

pub answer_refused : {A : Type 0} (refusal : ℕ) (accepted refused : A) → (refusal ≡ 0 → ⊥)
    → answer_by refusal accepted refused ≡ refused
answer_refused zero accepted refused some = absurd (some refl)
answer_refused (suc n) accepted refused some = refl

-- ---- refusals by their words

-- a refusal is that of its number and its record
pub refusal_is : (refusal : Refusal) → refusal_of (number_in refusal) (record_in refusal) ≡ refusal
refusal_is SpoiledBook = refl
refusal_is YearOver = refl
refusal_is OutOfTurn = refl
refusal_is WrongLength = refl
refusal_is WildPrice = refl
refusal_is WildAmount = refl
refusal_is (BadRight faulty) = refl
refusal_is (UnpricedNode faulty) = refl
refusal_is HourTooLarge = refl
refusal_is CarryFull = refl
refusal_is WantTooLarge = refl
refusal_is NoSuchYear = refl
refusal_is TooManyWants = refl
refusal_is TotalTooLarge = refl

-- no refusal has the number 0
pub number_some : (refusal : Refusal) → number_in refusal ≡ 0 → ⊥
number_some SpoiledBook e = omega arith
number_some YearOver e = omega arith
number_some OutOfTurn e = omega arith
number_some WrongLength e = omega arith
number_some WildPrice e = omega arith
number_some WildAmount e = omega arith
number_some (BadRight faulty) e = omega arith
number_some (UnpricedNode faulty) e = omega arith
number_some HourTooLarge e = omega arith
number_some CarryFull e = omega arith
number_some WantTooLarge e = omega arith
number_some NoSuchYear e = omega arith
number_some TooManyWants e = omega arith
number_some TotalTooLarge e = omega arith

-- a refusal has this number
abbrev pub has_refusal : ℕ → Bool
has_refusal number = eqb (number_in (refusal_of number 0)) number

-- the numbers of refusals, and the one of them that is looked for, found as the refusal is
abbrev numbers_of : List Refusal → List ℕ
numbers_of [] = []
numbers_of (refusal ∷ others) = number_in refusal ∷ numbers_of others

abbrev number_with : ℕ → List ℕ → ℕ
number_with number [] = number_in SpoiledBook
number_with number (other ∷ others) = cond (eqb other number) other (number_with number others)

number_found : (number : ℕ) (refusals : List Refusal) → number_in (refusal_with number refusals) ≡ number_with number (numbers_of refusals)
number_found number [] = refl
number_found number (refusal ∷ others) =
    by_test (eqb (number_in refusal) number) (refusal_with number others) (number_found number others)
  where
    by_test : (test : Bool) (other : Refusal) {found : ℕ} → number_in other ≡ found
        → number_in (cond test refusal other) ≡ cond test (number_in refusal) found
    by_test true other there = refl
    by_test false other there = there

-- that refusal has the number, whatever record it names
pub number_back : (number faulty : ℕ) → has_refusal number ≡ true → number_in (refusal_of number faulty) ≡ number
number_back number faulty has =
    number_found number (all_refusals faulty) ∙ sym (number_found number (all_refusals 0)) ∙ eqb-true _ _ has

-- 0, or the number of a refusal
abbrev pub IsNumber : ℕ → Type 0
IsNumber number = (number ≡ 0) ⊎ (has_refusal number ≡ true)

-- what comes from a table each of whose numbers a refusal has
pub is_number : (rows : List Row) → each_number has_refusal rows ≡ true → IsNumber (first_refusal rows)
is_number = number_passes has_refusal

-- each number up to 11 is one
pub low_number : (number : ℕ) → number ≤ 11 → IsNumber number
unfolding any_below
low_number zero within = inl refl
low_number (suc n) within = inr (not-false _ (any_miss differs 11 n refl (omega arith)))
  where
    differs : ℕ → Bool
    differs k = not (has_refusal (suc k))

-- what every refusal of a list passes, the one with a number passes
refusal_passes : (passes : Refusal → Bool) (number : ℕ) (refusals : List Refusal) → passes SpoiledBook ≡ true → each passes refusals ≡ true
    → passes (refusal_with number refusals) ≡ true
refusal_passes passes number [] default all = default
refusal_passes passes number (refusal ∷ others) default all =
    let both = both_true (passes refusal) (each passes others) all in
    by_test (eqb (number_in refusal) number) both.0 (refusal_passes passes number others default both.1)
  where
    by_test : (test : Bool) {this other : Refusal} → passes this ≡ true → passes other ≡ true → passes (cond test this other) ≡ true
    by_test true here there = here
    by_test false here there = there

-- the refusal of a number names the record, where the record is 0 in all but 7 and 8
pub record_back : (number faulty : ℕ) → ((number ≡ 7 → ⊥) → (number ≡ 8 → ⊥) → faulty ≡ 0)
    → record_in (refusal_of number faulty) ≡ faulty
record_back number faulty none = by_7 (ℕ_discrete number 7)
  where
    names_none : record_in (refusal_of number 0) ≡ 0
    names_none = eqb-true _ _ (refusal_passes (λ refusal. eqb (record_in refusal) 0) number (all_refusals 0) refl refl)

    by_8 : (number ≡ 7 → ⊥) → Dec (number ≡ 8) → record_in (refusal_of number faulty) ≡ faulty
    by_8 not_7 (yes is) = ap (λ (n : ℕ). record_in (refusal_of n faulty)) is
    by_8 not_7 (no other) =
        let zero_is : faulty ≡ 0 = none not_7 other in
        ap (λ (r : ℕ). record_in (refusal_of number r)) zero_is ∙ names_none ∙ sym zero_is

    by_7 : Dec (number ≡ 7) → record_in (refusal_of number faulty) ≡ faulty
    by_7 (yes is) = ap (λ (n : ℕ). record_in (refusal_of n faulty)) is
    by_7 (no other) = by_8 other (ℕ_discrete number 8)

-- ---- what a call answers

module _ {A : Type 0} where
  is_accepted : Result A Refusal → Bool
  is_accepted (Ok value) = true
  is_accepted (Err refusal) = false

  refusal_or_first : Result A Refusal → Refusal
  refusal_or_first (Ok value) = SpoiledBook
  refusal_or_first (Err refusal) = refusal

  value_or : A → Result A Refusal → A
  value_or other (Ok value) = value
  value_or other (Err refusal) = other

  -- a refused call: its number is not 0, and its refusal is that of the number
  pub answered_err : (number faulty : ℕ) (value : A) {refusal : Refusal} → answered number faulty value ≡ Err refusal
      → (0 < number) × (refusal ≡ refusal_of number faulty)
  unfolding is_accepted refusal_or_first
  answered_err zero faulty value e = absurd (false≢true (sym (ap is_accepted e)))
  answered_err (suc n) faulty value e = (omega arith, sym (ap refusal_or_first e))

  -- an accepted one: its number is 0, and it answers the value
  pub answered_ok : (number faulty : ℕ) (value : A) {given : A} → answered number faulty value ≡ Ok given
      → (number ≡ 0) × (given ≡ value)
  unfolding is_accepted value_or
  answered_ok zero faulty value e = (refl, sym (ap (value_or value) e))
  answered_ok (suc n) faulty value e = absurd (false≢true (ap is_accepted e))

  -- the answer of a number that is not 0
  pub refused_with : (number faulty : ℕ) (value : A) → 0 < number → answered number faulty value ≡ Err (refusal_of number faulty)
  refused_with zero faulty value some = absurd (omega arith)
  refused_with (suc n) faulty value some = refl

  -- an answer in numbers: its number, its record, and its value or another
  pub number_answered : (number faulty : ℕ) (value : A) → IsNumber number → answer_number (answered number faulty value) ≡ number
  number_answered zero faulty value some = refl
  number_answered (suc n) faulty value (inl none) = absurd (omega arith)
  number_answered (suc n) faulty value (inr some) = number_back (suc n) faulty some

  -- the answer of a table each of whose numbers a refusal has
  pub table_answered : (rows : List Row) (value : A) → each_number has_refusal rows ≡ true
      → answer_number (answered (first_refusal rows) 0 value) ≡ first_refusal rows
  table_answered rows value all = number_answered (first_refusal rows) 0 value (is_number rows all)

  pub record_answered : (number faulty : ℕ) (value : A) → ((number ≡ 7 → ⊥) → (number ≡ 8 → ⊥) → faulty ≡ 0)
      → answer_record (answered number faulty value) ≡ faulty
  record_answered zero faulty value none = sym (none (λ e. omega arith) (λ e. omega arith))
  record_answered (suc n) faulty value none = record_back (suc n) faulty none

  pub value_answered : (number faulty : ℕ) (value other : A)
      → result_unwrap_or (answered number faulty value) other ≡ answer_by number value other
  value_answered zero faulty value other = refl
  value_answered (suc n) faulty value other = refl
