-- The printed statement: decimal numbers, the lines of an event, the last line and a refusal, as bytes.
-- Assumes nothing.
use Rattle.std.specs.Prelude.{ℕ, zero, suc, ◌+◌, ◌*◌, ◌/◌, ◌%◌, cond, List, [], ◌∷◌, ◌++◌, ltb, length, get_or, ℤ, pos, negsuc}
use Prim.Native.Char.{code}

-- the bytes of a blank, a minus sign, a newline and a digit
abbrev pub blank : ℕ
blank = 32

abbrev pub minus : ℕ
minus = 45

abbrev pub newline : ℕ
newline = 10

abbrev pub digit : ℕ → ℕ
digit n = 48 + n

-- the decimal digits of a number, the highest first and no more than it needs; the first argument only bounds the recursion
unfoldable pub digits_within : ℕ → ℕ → List ℕ
digits_within zero n = []
digits_within (suc k) n = cond (ltb n 10) [] (digits_within k (n / 10)) ++ (digit (n % 10) ∷ [])

unfoldable pub digits : ℕ → List ℕ
digits n = digits_within (suc n) n

-- a number of either sign: a minus sign before the digits of a negative one; negsuc n is -(n + 1)
unfoldable pub signed_digits : ℤ → List ℕ
signed_digits (pos n) = digits n
signed_digits (negsuc n) = minus ∷ digits (suc n)

-- "one blank between fields"
abbrev pub field : ℕ → List ℕ
field n = (blank ∷ []) ++ digits n

abbrev pub signed_field : ℤ → List ℕ
signed_field z = (blank ∷ []) ++ signed_digits z

-- a printed line: "an `H`, `M` or `Y`, the hour or month number (0 for the year), owner, cents"; "last an `F`, month surplus, year
-- surplus", each of which is now "a signed balance" (Wish 6); "`R` and its number"
pub data Line : Type 0 where
  owner_line : ℕ → ℕ → ℕ → ℤ → Line
  fund_line : ℤ → ℤ → Line
  refusal_line : ℕ → Line

unfoldable pub line_text : Line → List ℕ
line_text (owner_line tag number owner cents) =
    (tag ∷ []) ++ field number ++ field owner ++ signed_field cents ++ (newline ∷ [])
line_text (fund_line month year) = (code "F" ∷ []) ++ signed_field month ++ signed_field year ++ (newline ∷ [])
line_text (refusal_line number) = (code "R" ∷ []) ++ field number ++ (newline ∷ [])

-- the text of lines, one after another
unfoldable pub text_of : List Line → List ℕ
text_of [] = []
text_of (line ∷ rest) = line_text line ++ text_of rest

-- "for each non-zero line"
unfoldable pub owner_lines : ℕ → ℕ → ℕ → ℤ → List Line
owner_lines tag number owner (pos zero) = []
owner_lines tag number owner (pos (suc n)) = owner_line tag number owner (pos (suc n)) ∷ []
owner_lines tag number owner (negsuc n) = owner_line tag number owner (negsuc n) ∷ []

-- "owners rising": the lines of the owners below a number, one after another
unfoldable pub lines_below : ℕ → ℕ → List ℤ → ℕ → List Line
lines_below tag number cents zero = []
lines_below tag number cents (suc n) = lines_below tag number cents n ++ owner_lines tag number n (get_or cents n (pos 0))

-- the lines of an event, from the cents of each owner
unfoldable pub event_lines : ℕ → ℕ → List ℤ → List Line
event_lines tag number cents = lines_below tag number cents (length cents)

-- the most bytes of a 64-bit number with its blank, and of a line with its letter, its three fields and its newline
abbrev pub field_room : ℕ
field_room = 21

abbrev pub line_room : ℕ
line_room = 3 * field_room + 2

-- the room that an event with so many lines asks for
abbrev pub event_room : ℕ → ℕ
event_room lines = lines * line_room
