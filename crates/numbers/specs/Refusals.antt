-- A refusal table: numbers, each with the test that calls for it, in the order in which they are looked at; and the refusals by their words.
-- Assumes nothing.
use Rattle.std.specs.Prelude.{ℕ, zero, suc, Bool, cond, List, [], ◌∷◌, eqb, Result, Ok, Err}
use Rattle.numbers.specs.declared.refusal.Refusal.{Refusal}
use Rattle.numbers.specs.declared.refusal.Refusal.TheVariants.{SpoiledBook, YearOver, OutOfTurn, WrongLength, WildPrice, WildAmount, BadRight, UnpricedNode, HourTooLarge, CarryFull, WantTooLarge, NoSuchYear, TooManyWants, TotalTooLarge}

-- a row of the table: this number, if the test holds
infix 20 ◌if◌
pub data Row : Type 0 where
  ◌if◌ : ℕ → Bool → Row

-- "Where several apply, the lowest number comes", but "16 .. right after 4", and 15 "before any other check": the first number whose test
-- holds, 0 if none does
unfoldable pub first_refusal : List Row → ℕ
first_refusal [] = 0
first_refusal ((number if test) ∷ rows) = cond test number (first_refusal rows)

-- what a call gives: by its refusal number, the accepted answer (0) or the refused one
abbrev pub answer_by : {A : Type 0} → ℕ → A → A → A
answer_by zero accepted refused = accepted
answer_by (suc n) accepted refused = refused

-- ---- the refusals by their words

-- the number of each word in the table
abbrev pub number_in : Refusal → ℕ
number_in SpoiledBook = 1
number_in YearOver = 2
number_in OutOfTurn = 3
number_in WrongLength = 4
number_in WildPrice = 5
number_in WildAmount = 6
number_in (BadRight faulty) = 7
number_in (UnpricedNode faulty) = 8
number_in HourTooLarge = 9
number_in CarryFull = 10
number_in WantTooLarge = 11
number_in NoSuchYear = 15
number_in TooManyWants = 16
number_in TotalTooLarge = 17

-- "the record number is 0 except in 7 and 8"
abbrev pub record_in : Refusal → ℕ
record_in (BadRight faulty) = faulty
record_in (UnpricedNode faulty) = faulty
record_in other = 0

-- all refusals, in the order of their numbers; 7 and 8 name this record
abbrev pub all_refusals : ℕ → List Refusal
all_refusals faulty =
    SpoiledBook
    ∷ YearOver
    ∷ OutOfTurn
    ∷ WrongLength
    ∷ WildPrice
    ∷ WildAmount
    ∷ BadRight faulty
    ∷ UnpricedNode faulty
    ∷ HourTooLarge
    ∷ CarryFull
    ∷ WantTooLarge
    ∷ NoSuchYear
    ∷ TooManyWants
    ∷ TotalTooLarge
    ∷ []

-- the one that has the number; a spoiled book stands for a number that none has, which no call gives
abbrev pub refusal_with : ℕ → List Refusal → Refusal
refusal_with number [] = SpoiledBook
refusal_with number (refusal ∷ others) = cond (eqb (number_in refusal) number) refusal (refusal_with number others)

-- the refusal of a number, and of the record that 7 and 8 name
abbrev pub refusal_of : ℕ → ℕ → Refusal
refusal_of number faulty = refusal_with number (all_refusals faulty)

-- what a call answers: by its refusal number, the value (0), or the refusal of that number and record
abbrev pub answered : {A : Type 0} → ℕ → ℕ → A → Result A Refusal
answered zero faulty value = Ok value
answered (suc n) faulty value = Err (refusal_of (suc n) faulty)

-- the number of what a call answers, 0 where it is accepted; and the record that it names
abbrev pub answer_number : {A : Type 0} → Result A Refusal → ℕ
answer_number (Ok value) = 0
answer_number (Err refusal) = number_in refusal

abbrev pub answer_record : {A : Type 0} → Result A Refusal → ℕ
answer_record (Ok value) = 0
answer_record (Err refusal) = record_in refusal
