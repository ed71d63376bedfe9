-- A record by its two words: the eight fields cut from them, and the words that eight fields make, whose bytes are the layout's.
-- Assumes nothing.
use Rattle.std.specs.Prelude.{ℕ, ◌+◌, ◌*◌, ◌^◌, ◌<◌, ◌≡◌, List, ◌++◌, get_or}
use Rattle.numbers.specs.Lists.{list_below}
use Rattle.numbers.specs.Words.{AreBytes, bytes_of, part_of, word}
use Rattle.rights.specs.declared.Right.{Right}
use Rattle.rights.specs.Layout.{right_from, laid_out}

-- "two 64-bit words of a record, low byte first" (Wish 5): the bytes 0 to 7, and the bytes 8 to 15
abbrev pub low_word : List ℕ → ℕ → ℕ
low_word file at = word 8 file at

abbrev pub high_word : List ℕ → ℕ → ℕ
high_word file at = word 8 file (at + 8)

-- "and cut all eight fields from those": each from its bytes, of which the high word has those from 8 on
abbrev pub right_of : ℕ → ℕ → Right
right_of low high =
    record {
      owner = part_of 2 low 0;
      source = part_of 2 low 2;
      sink = part_of 2 low 4;
      kind = part_of 1 low 6;
      class = part_of 1 low 7;
      size = part_of 4 high 0;
      first = part_of 2 high 4;
      last = part_of 2 high 6;
    }

-- "for any 16 bytes, good or bad, the fields so cut are those of the layout"
abbrev pub CutAsLaidOut : Type 0
CutAsLaidOut = (file : List ℕ) (at : ℕ) → AreBytes file → right_of (low_word file at) (high_word file at) ≡ right_from file at

-- the opposite: the two words that eight fields make
abbrev pub low_of : Right → ℕ
low_of right =
    right.owner + right.source * 256 ^ 2 + right.sink * 256 ^ 4 + right.kind * 256 ^ 6 + right.class * 256 ^ 7

abbrev pub high_of : Right → ℕ
high_of right = right.size + right.first * 256 ^ 4 + right.last * 256 ^ 6

-- the eight fields in their widths: 16, 8 or 32 bits
pub record InWidths (right : Right) : Type 0 where
  pub owner : right.owner < 2 ^ 16
  pub source : right.source < 2 ^ 16
  pub sink : right.sink < 2 ^ 16
  pub kind : right.kind < 2 ^ 8
  pub class : right.class < 2 ^ 8
  pub size : right.size < 2 ^ 32
  pub first : right.first < 2 ^ 16
  pub last : right.last < 2 ^ 16

-- the fields cut from the words that they made are those fields
abbrev pub CutAsMade : Type 0
CutAsMade = (right : Right) → InWidths right → right_of (low_of right) (high_of right) ≡ right

-- the bytes of these words are the 16 bytes of the right
abbrev pub LaidOutByWords : Type 0
LaidOutByWords = (right : Right) → InWidths right → bytes_of 8 (low_of right) ++ bytes_of 8 (high_of right) ≡ laid_out right

-- those bytes give the fields back
abbrev pub LaidOutAsGiven : Type 0
LaidOutAsGiven = (right : Right) → InWidths right → right_from (laid_out right) 0 ≡ right

-- and any 16 bytes, good or bad, are those that their own fields make
abbrev pub LaidOutAsRead : Type 0
LaidOutAsRead = (file : List ℕ) (at : ℕ) → AreBytes file → laid_out (right_from file at) ≡ list_below (λ i. get_or file (at + i) 0) 16
