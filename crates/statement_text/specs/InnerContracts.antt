-- For the contracts of inner functions alone, no part of what a writing call promises: one piece of text is written, two digits, a line of
-- a letter and numbers, and the room that the parts of a sentence ask for.
-- Assumes nothing.
use Rattle.std.specs.Prelude.{ℕ, ℤ, ◌+◌, ◌/◌, ◌%◌, ◌≤◌, ◌≡◌, List, [], ◌∷◌, ◌++◌, length, flat_map}
use Rattle.numbers.specs.Lists.{written}
use Rattle.statement_text.specs.Text.{digit, newline, signed_field}
use Rattle.statement_text.specs.declared.lent.Text.{Text}

-- a text was written at a place, and ends where it is said to end
pub record Wrote (text before : List ℕ) (at : ℕ) (after : List ℕ) (end : ℕ) : Type 0 where
  pub ends : end ≡ at + length text
  pub buffer : after ≡ written before at text

-- a piece is put behind a text, in the same buffer
pub record Put (piece : List ℕ) (text after : Text) : Type 0 where
  pub wrote : Wrote piece text.bytes.now text.end after.bytes.now after.end
  pub same_buffer : after.bytes.ghost_name ≡ text.bytes.ghost_name
  pub same_length : length after.bytes.now ≡ length text.bytes.now
  pub inside : after.end ≤ length after.bytes.now

-- the most digits of a 64-bit number
abbrev pub most_digits : ℕ
most_digits = 20

-- the two digits of a number below 100, the first of which may be 0
abbrev pub pair : ℕ → List ℕ
pair n = digit (n / 10) ∷ digit (n % 10) ∷ []

-- a line of a letter and of numbers
abbrev pub numbers_text : ℕ → List ℤ → List ℕ
numbers_text letter numbers = (letter ∷ []) ++ flat_map signed_field numbers ++ (newline ∷ [])

-- the most bytes of a sentence's parts: "Month end" and a number; the refusal's word; " is refused:", a number, ", " and the word;
-- ", record" and a number
abbrev pub event_phrase_room : ℕ
event_phrase_room = 30

abbrev pub word_room : ℕ
word_room = 16

abbrev pub refusal_phrase_room : ℕ
refusal_phrase_room = 51

abbrev pub record_phrase_room : ℕ
record_phrase_room = 29
