-- The rights file: where each field of a record stands, which values are good, and when a right is live.
-- Assumes nothing.
use Rattle.std.specs.Prelude.{ℕ, ◌+◌, ◌*◌, ◌/◌, ◌%◌, Bool, not, ◌&&◌, ◌||◌, List, [], ◌∷◌, ◌++◌, leb, ltb, eqb, length}
use Rattle.numbers.specs.Limits.{owners, nodes}
use Rattle.numbers.specs.Refusals.{first_refusal, ◌if◌, answer_by}
use Rattle.numbers.specs.Words.{word, bytes_of}
use Rattle.calendar.specs.Almanac.{is_outside, days_in_year}
use Rattle.calendar.specs.declared.OperatingHour.{OperatingHour}
use Rattle.rights.specs.declared.Right.{Right}

-- "Records of 16 bytes, no header"
abbrev pub record_bytes : ℕ
record_bytes = 16

-- how many whole records a file has
abbrev pub record_count : List ℕ → ℕ
record_count file = length file / record_bytes

-- the record that starts at a place, "low byte first": "0: owner, 16 bits", "2: source node, 16 bits", "4: sink node, 16 bits",
-- "6: kind, 8 bits", "7: class, 8 bits", "8: size in tenths of a megawatt, 32 bits", "12: first day, 16 bits", "14: last day, 16 bits"
abbrev pub right_from : List ℕ → ℕ → Right
right_from file at =
    record {
      owner = word 2 file at;
      source = word 2 file (at + 2);
      sink = word 2 file (at + 4);
      kind = word 1 file (at + 6);
      class = word 1 file (at + 7);
      size = word 4 file (at + 8);
      first = word 2 file (at + 12);
      last = word 2 file (at + 14);
    }

-- the record of a number, from 0
abbrev pub right_at : List ℕ → ℕ → Right
right_at file number = right_from file (number * record_bytes)

-- "the 16 bytes" of a right (Wish 1): the bytes of its fields, low byte first, in the order of their places
unfoldable pub laid_out : Right → List ℕ
laid_out right =
    bytes_of 2 right.owner
    ++ bytes_of 2 right.source
    ++ bytes_of 2 right.sink
    ++ bytes_of 1 right.kind
    ++ bytes_of 1 right.class
    ++ bytes_of 4 right.size
    ++ bytes_of 2 right.first
    ++ bytes_of 2 right.last

-- the values that each field may have: "owner, 16 bits, 0 to 63"
abbrev pub good_owner : Right → Bool
good_owner right = ltb right.owner owners

-- "source node, 16 bits, 0 to 1,023"; "sink node, 16 bits, 0 to 1,023, not the source"
abbrev pub good_nodes : Right → Bool
good_nodes right = ltb right.source nodes && ltb right.sink nodes && not (eqb right.sink right.source)

-- "kind, 8 bits: 0 obligation, 1 option"; "class, 8 bits: 0 peak, 1 off-peak, 2 all hours"
abbrev pub good_kind : Right → Bool
good_kind right = leb right.kind 1 && leb right.class 2

-- "size in tenths of a megawatt, 32 bits, 1 to 100,000"
abbrev pub most_size : ℕ
most_size = 100_000

abbrev pub good_size : Right → Bool
good_size right = leb 1 right.size && leb right.size most_size

-- "1 ≤ first ≤ last ≤ 365", and by Wish 7 the top day comes from the year: of a year with so many days
abbrev pub good_days : ℕ → Right → Bool
good_days days right = leb 1 right.first && leb right.first right.last && leb right.last days

abbrev pub is_good : ℕ → Right → Bool
is_good days right = good_owner right && good_nodes right && good_kind right && good_size right && good_days days right

-- "A right is live in an hour if the day is from first to last and its class fits": 0 peak, 1 off-peak, 2 all hours
abbrev pub class_fits : ℕ → Bool → Bool
class_fits class peak = eqb class 0 && peak || eqb class 1 && not peak || eqb class 2

abbrev pub is_live : OperatingHour → Right → Bool
is_live hour right = leb right.first hour.day && leb hour.day right.last && class_fits right.class hour.peak

-- 4: "rights not a multiple of 16 or above 65,536"
abbrev pub most_bytes : ℕ
most_bytes = 65_536

abbrev pub is_wrong_length : ℕ → Bool
is_wrong_length bytes = not (eqb (bytes % record_bytes) 0) || ltb most_bytes bytes

-- the refusals of "record calls, reading or writing", for a file, a record number and the right that is read or written: 15 "before any other
-- check" (Wish 7); 4 also for "no such record"; 7, "a field outside its values"
unfoldable pub record_refusal : ℕ → List ℕ → ℕ → Right → ℕ
record_refusal year file number right =
    first_refusal
    ((15 if is_outside year)
    ∷ (4 if is_wrong_length (length file) || leb (record_count file) number)
    ∷ (7 if not (is_good (days_in_year year) right))
    ∷ [])

-- "A read by record number, from 0, gives the eight fields, or 4 or 7"
abbrev pub read_refusal : ℕ → List ℕ → ℕ → ℕ
read_refusal year file number = record_refusal year file number (right_at file number)

-- what a read gives: its refusal number, and the eight fields
pub record Reading : Type 0 where
  pub refusal : ℕ
  pub right : Right

-- a refused read gives zeros beside its number
abbrev pub refused_reading : ℕ → Reading
refused_reading refusal =
    record {
      refusal = refusal;
      right = record { owner = 0; source = 0; sink = 0; kind = 0; class = 0; size = 0; first = 0; last = 0 };
    }

unfoldable pub reading : ℕ → List ℕ → ℕ → Reading
reading year file number =
    answer_by (read_refusal year file number) (record { refusal = 0; right = right_at file number })
    (refused_reading (read_refusal year file number))
