-- Words: the number that bytes make, low byte first; a part of it that some of its bytes make; and the bytes of a number.
-- Assumes nothing.
use Rattle.std.specs.Prelude.{ℕ, zero, suc, ◌+◌, ◌*◌, ◌/◌, ◌%◌, ◌^◌, ◌<◌, List, get_or}
use Rattle.numbers.specs.Lists.{list_below}

-- "low byte first": the number that so many bytes from a place on make
abbrev pub word : ℕ → List ℕ → ℕ → ℕ
word zero bytes at = 0
word (suc n) bytes at = word n bytes at + get_or bytes (at + n) 0 * 256 ^ n

-- the part of a number that so many of its bytes make, from a place on: its low byte is at 0
abbrev pub part_of : ℕ → ℕ → ℕ → ℕ
part_of n number at = number / 256 ^ at % 256 ^ n

-- the bytes of a number, so many of them, low byte first
unfoldable pub bytes_of : ℕ → ℕ → List ℕ
bytes_of n number = list_below (part_of 1 number) n

-- each element is a byte
abbrev pub AreBytes : List ℕ → Type 0
AreBytes bytes = (place : ℕ) → get_or bytes place 0 < 256
