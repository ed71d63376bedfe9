-- The faults of a whole rights file, for a year and a number of prices.
-- Assumes nothing.
use Rattle.std.specs.Prelude.{ℕ, Bool, false, cond, not, ◌||◌, List, [], ◌∷◌, leb, eqb, length}
use Rattle.numbers.specs.Lists.{any_below, lowest_below}
use Rattle.numbers.specs.Refusals.{Row, first_refusal, ◌if◌}
use Rattle.calendar.specs.Almanac.{is_outside, days_in_year}
use Rattle.rights.specs.declared.Right.{Right}
use Rattle.rights.specs.Layout.{record_count, right_at, is_good, is_wrong_length}

-- a node of the right is "at or past the number of prices"
abbrev pub is_unpriced : ℕ → Right → Bool
is_unpriced prices right = leb prices right.source || leb prices right.sink

-- the fault of a right, in a year with so many days, that a refusal number stands for: 7, "a field outside its values"; 8, an unpriced
-- node; no other number stands for one
abbrev pub has_fault : ℕ → ℕ → ℕ → Right → Bool
has_fault days prices refusal right =
    cond (eqb refusal 7) (not (is_good days right)) (cond (eqb refusal 8) (is_unpriced prices right) false)

-- the record of a number has that fault
unfoldable pub fault_at : ℕ → ℕ → List ℕ → ℕ → ℕ → Bool
fault_at year prices file refusal number = has_fault (days_in_year year) prices refusal (right_at file number)

-- "in any record, live or not"
unfoldable pub any_fault : ℕ → ℕ → List ℕ → ℕ → Bool
any_fault year prices file refusal = any_below (fault_at year prices file refusal) (record_count file)

-- the rows 7 and 8 of every call that is lent a file and prices
unfoldable pub fault_rows : ℕ → ℕ → List ℕ → List Row
fault_rows year prices file = (7 if any_fault year prices file 7) ∷ (8 if any_fault year prices file 8) ∷ []

-- the refusals of a file, for a year and a number of prices
unfoldable pub file_refusal : ℕ → ℕ → List ℕ → ℕ
file_refusal year prices file =
    first_refusal ((15 if is_outside year) ∷ (4 if is_wrong_length (length file)) ∷ fault_rows year prices file)

-- "In 7 and 8 the record number becomes the lowest one with that fault, all earlier records being free of it" (Wish 3); else it is 0
unfoldable pub faulty_record : ℕ → ℕ → List ℕ → ℕ → ℕ
faulty_record year prices file refusal =
    cond (eqb refusal 7 || eqb refusal 8) (lowest_below (fault_at year prices file refusal) (record_count file)) 0
