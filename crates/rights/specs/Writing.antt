-- Writing a record: "the opposite of the reader" (Wish 1).
-- Assumes nothing.
use Rattle.std.specs.Prelude.{ℕ, ◌*◌, ◌≡◌, false, List, Some, Ok}
use Rattle.numbers.specs.Lists.{written}
use Rattle.numbers.specs.Refusals.{answer_by}
use Rattle.numbers.specs.Words.{AreBytes}
use Rattle.rights.specs.declared.Right.{Right}
use Rattle.rights.specs.Layout.{record_bytes, laid_out, record_refusal, reading}
use Rattle.rights.specs.Faults.{is_unpriced, file_refusal}
use Rattle.rights.specs.Reader.{Given, IsReading}

-- "a right as values, written as the 16 bytes at a given record number in a lent file, every other byte unchanged"; "Bad values get 7; a record
-- number outside the file, or a file of wrong length, gets 4 first; neither writes", and neither does 15
unfoldable pub file_after : ℕ → List ℕ → ℕ → Right → List ℕ
file_after year file number right =
    answer_by (record_refusal year file number right) (written file (number * record_bytes) (laid_out right)) file

-- ---- what follows, for every file, year, number and right

-- "A good right written and read is that right"
abbrev pub WrittenAndRead : Type 0
WrittenAndRead = (year : ℕ) (file : List ℕ) (number : ℕ) (right : Right) → record_refusal year file number right ≡ 0
    → reading year (file_after year file number right) number ≡ record { refusal = 0; right = right }

-- "a good record read and written is those bytes": the file is the same. Of a record that can't be read the write is refused as the read is
pub record IsReadAndWritten (year : ℕ) (file : List ℕ) (number : ℕ) : Type 0 where
  pub refusal : record_refusal year file number (reading year file number).right ≡ (reading year file number).refusal
  pub same : file_after year file number (reading year file number).right ≡ file

abbrev pub ReadAndWritten : Type 0
ReadAndWritten = (year : ℕ) (file : List ℕ) (number : ℕ) → AreBytes file → IsReadAndWritten year file number

-- "every other byte unchanged": every other record reads as before, in any year
abbrev pub OthersReadAsBefore : Type 0
OthersReadAsBefore = (year : ℕ) (file : List ℕ) (number : ℕ) (right : Right) (inyear other : ℕ) → (other ≡ number → ⊥)
    → reading inyear (file_after year file number right) other ≡ reading inyear file other

-- a file without a fault has none afterwards, where the right's nodes have their prices
abbrev pub StaysClear : Type 0
StaysClear = (year prices : ℕ) (file : List ℕ) (number : ℕ) (right : Right) → file_refusal year prices file ≡ 0
    → record_refusal year file number right ≡ 0 → is_unpriced prices right ≡ false
    → file_refusal year prices (file_after year file number right) ≡ 0

-- the reader over the file written to gives the right at its place, and at every other step what it gives over the file before
pub record IsReadingAfter (before after : ℕ → Given) (number : ℕ) (right : Right) : Type 0 where
  pub here : after number ≡ Some (Ok right)
  pub others : (step : ℕ) → (step ≡ number → ⊥) → after step ≡ before step

abbrev pub ReaderAfter : Type 0
ReaderAfter = (year : ℕ) (file : List ℕ) (number : ℕ) (right : Right) (before after : ℕ → Given) (next then : ℕ → ℕ)
    → record_refusal year file number right ≡ 0 → IsReading year file before next
    → IsReading year (file_after year file number right) after then → IsReadingAfter before after number right
