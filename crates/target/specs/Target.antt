-- An owner's target in an hour, and the target call.
-- Assumes nothing.
use Rattle.std.specs.Prelude.{ℕ, Bool, cond, not, ◌||◌, List, [], ◌∷◌, ◌++◌, leb, ltb, eqb, length, get_or, ℤ, pos, negsuc, neg_ℤ, ◌-ℤ◌, ◌*ℤ◌, Result}
use Rattle.std.specs.Int.Signed.{lt_z}
use Rattle.numbers.specs.Limits.{owners, nodes}
use Rattle.numbers.specs.Lists.{any_below, list_below, sum_below}
use Rattle.numbers.specs.declared.refusal.Refusal.{Refusal}
use Rattle.numbers.specs.Refusals.{Row, ◌if◌, first_refusal, answer_by, answered}
use Rattle.calendar.specs.declared.OperatingHour.{OperatingHour}
use Rattle.calendar.specs.Almanac.{is_outside}
use Rattle.calendar.specs.Year.{hours_in_year, operating_hour}
use Rattle.rights.specs.declared.Right.{Right}
use Rattle.rights.specs.Layout.{record_count, right_at, is_live, is_wrong_length}
use Rattle.rights.specs.Faults.{fault_rows, faulty_record}
use Rattle.target.specs.Rounding.{round_tenths}

-- "cents per megawatt hour, one for each node from node 0"
abbrev pub price_at : List ℤ → ℕ → ℤ
price_at prices node = get_or prices node (pos 0)

-- "each from -500,000 to 500,000"
abbrev pub most_price : ℕ
most_price = 500_000

abbrev pub is_wild : ℤ → Bool
is_wild price = lt_z price (neg_ℤ (pos most_price)) || lt_z (pos most_price) price

-- "The spread of a right is the price at its sink less the price at its source"
abbrev pub spread : List ℤ → Right → ℤ
spread prices right = price_at prices right.sink -ℤ price_at prices right.source

-- "a negative spread counts as 0"
abbrev pub not_negative : ℤ → ℤ
not_negative (pos n) = pos n
not_negative (negsuc n) = pos 0

-- "for an option", kind 1
abbrev pub counted : ℕ → ℤ → ℤ
counted kind gain = cond (eqb kind 1) (not_negative gain) gain

-- "size times spread: tenths of a cent"
abbrev pub tenths : List ℤ → Right → ℤ
tenths prices right = pos right.size *ℤ counted right.kind (spread prices right)

-- "Each live right's size times spread is rounded to a cent, halves away from zero" (Wish 2), of a right that is live
unfoldable pub live_cents : List ℤ → Right → ℤ
live_cents prices right = round_tenths (tenths prices right)

-- a right's row in an hour: its cents, 0 where it is not live
unfoldable pub row_cents : List ℤ → OperatingHour → Right → ℤ
row_cents prices hour right = cond (is_live hour right) (live_cents prices right) (pos 0)

-- the row of the record of a number
abbrev pub row_at : List ℕ → List ℤ → OperatingHour → ℕ → ℤ
row_at file prices hour number = row_cents prices hour (right_at file number)

-- for rows by record number: a record's, if the right is the owner's, and else 0
unfoldable pub own_row : List ℕ → ℕ → (ℕ → ℤ) → ℕ → ℤ
own_row file owner row number = cond (eqb (right_at file number).owner owner) (row number) (pos 0)

-- the sum of an owner's rows
unfoldable pub own_sum : List ℕ → ℕ → (ℕ → ℤ) → ℤ
own_sum file owner row = sum_below (own_row file owner row) (record_count file)

-- "an owner's target is the sum of these cents. This replaces the one rounding per owner": Wish 2 prevails over the scope's "S / 10
-- rounded to a whole cent, halves away from zero, once per owner"
unfoldable pub target : ℕ → List ℕ → List ℤ → ℕ → ℕ → ℤ
target year file prices hour owner = own_sum file owner (row_at file prices (operating_hour year hour))

-- "all 64 targets"
unfoldable pub targets : ℕ → List ℕ → List ℤ → ℕ → List ℤ
targets year file prices hour = list_below (target year file prices hour) owners

-- 5: "any price outside its range"
abbrev pub wild_at : List ℤ → ℕ → Bool
wild_at prices node = is_wild (price_at prices node)

unfoldable pub any_wild : List ℤ → Bool
any_wild prices = any_below (wild_at prices) (length prices)

-- 4: "lines not 64"
abbrev pub is_wrong_lines : ℕ → Bool
is_wrong_lines lines = not (eqb lines owners)

-- 4: "prices not 1 to 1,024"
abbrev pub is_wrong_price_count : ℕ → Bool
is_wrong_price_count prices = eqb prices 0 || ltb nodes prices

-- the rows 4 and 5 of every call that is lent rights and prices: "prices not 1 to 1,024; rights not a multiple of 16 or above
-- 65,536"; "any price outside its range"
unfoldable pub lent_rows : List ℕ → List ℤ → List Row
lent_rows file prices =
    (4 if is_wrong_price_count (length prices)) ∷ (4 if is_wrong_length (length file)) ∷ (5 if any_wild prices) ∷ []

-- the rows before the records of a call that is given a year and an hour number, and lent rights, prices and lines: 15, "before any other
-- check"; 3, "an hour number above 8,759", by the year; 4, a wrong number of lines; 4 and 5 of what else is lent
unfoldable pub early_rows : ℕ → List ℕ → List ℤ → ℕ → Bool → List Row
early_rows year file prices hour wrong_lines =
    (15 if is_outside year) ∷ (3 if leb (hours_in_year year) hour) ∷ (4 if wrong_lines) ∷ lent_rows file prices

-- its refusals, over the whole input: these rows, then 7 and 8, "in any record"
unfoldable pub call_refusal : ℕ → List ℕ → List ℤ → ℕ → Bool → ℕ
call_refusal year file prices hour wrong_lines =
    first_refusal (early_rows year file prices hour wrong_lines ++ fault_rows year (length prices) file)

-- those of a target call, whose lines are 64
abbrev pub target_refusal : ℕ → List ℕ → List ℤ → ℕ → ℕ → ℕ
target_refusal year file prices hour lines = call_refusal year file prices hour (is_wrong_lines lines)

-- what a call that is lent rights and prices answers by its refusal: "In 7 and 8 the record number becomes the lowest one with that fault"
abbrev pub call_answer : ℕ → List ℕ → List ℤ → ℕ → Result (Unit {0}) Refusal
call_answer year file prices refusal = answered refusal (faulty_record year (length prices) file refusal) tt

-- the lines after a target call
unfoldable pub target_lines : ℕ → List ℕ → List ℤ → ℕ → List ℤ → List ℤ
target_lines year file prices hour before =
    answer_by (target_refusal year file prices hour (length before)) (targets year file prices hour) before
