-- For the contracts of inner functions alone, no part of what a call promises.
-- Assumes nothing.
use Rattle.std.specs.Prelude.{ℕ, ◌/◌, ◌%◌, ◌^◌, ◌≤◌, ◌<◌, ◌≡◌, Bool, true, false, cond, not, ◌&&◌, ◌||◌, List, [], ◌∷◌, leb, ltb, length, get_or, Option, Some, None, ℤ, pos}
use Rattle.numbers.specs.Limits.{owners, nodes}
use Rattle.numbers.specs.Lists.{any_below, list_below, sum_below}
use Rattle.numbers.specs.Refusals.{answer_by}
use Rattle.calendar.specs.declared.OperatingHour.{OperatingHour}
use Rattle.calendar.specs.Almanac.{days_in_year}
use Rattle.rights.specs.declared.Right.{Right}
use Rattle.rights.specs.Layout.{most_bytes, record_bytes, record_count, right_at, good_owner, good_size, is_live}
use Rattle.rights.specs.GoodParts.{is_sound, is_within_limits}
use Rattle.rights.specs.RecordWords.{right_of}
use Rattle.rights.specs.Faults.{file_refusal, is_unpriced}
use Rattle.target.specs.declared.live_rights.Noted.{Noted}
use Rattle.target.specs.Target.{any_wild, live_cents, own_row, own_sum, row_at}

-- what one pass over the rights gives: each owner's sum of its rows, or none where some record has a fault
abbrev pub added : ℕ → List ℕ → List ℤ → OperatingHour → Option (List ℤ)
added year file prices hour =
    answer_by (file_refusal year (length prices) file) (Some (list_below (λ owner. own_sum file owner (row_at file prices hour)) owners)) None

-- some record has a node without a price
abbrev pub any_unpriced : ℕ → List ℕ → Bool
any_unpriced prices file = any_below (λ number. is_unpriced prices (right_at file number)) (record_count file)

-- there are fewer prices than nodes, and so few that some record has a node without one
abbrev pub lacks_prices : ℕ → List ℕ → Bool
lacks_prices prices file = ltb prices nodes && any_unpriced prices file

-- for each class 1 if it fits, else 0
abbrev pub classes_that_fit : Bool → List ℕ
classes_that_fit peak = cond peak (1 ∷ 0 ∷ 1 ∷ []) (0 ∷ 1 ∷ 1 ∷ [])

-- a day is from a right's first to its last
abbrev pub is_live_on : Right → ℕ → Bool
is_live_on right day = leb right.first day && leb day right.last

-- the number of the record whose place stands at an index of a list of places
abbrev pub number_in : List ℕ → ℕ → ℕ
number_in places i = get_or places i 0 / record_bytes

-- the first so many of these numbers are those of the live records below a bound: each is live, and none is missing or twice, since any amounts
-- by record number that are 0 for the others come to the same sum
pub record AreLive (file : List ℕ) (hour : OperatingHour) (number : ℕ → ℕ) (count bound : ℕ) : Type 0 where
  pub fewer : count ≤ bound
  pub below : (i : ℕ) → i < count → number i < bound
  pub live : (i : ℕ) → i < count → is_live hour (right_at file (number i)) ≡ true
  pub all : (amount : ℕ → ℤ) → ((k : ℕ) → is_live hour (right_at file k) ≡ false → amount k ≡ pos 0)
      → sum_below (λ i. amount (number i)) count ≡ sum_below amount bound

-- three ways in which a record is bad: it is not sound; a field is beyond a limit that is a power of two; its last day is past the year's
abbrev pub is_unsound : List ℕ → ℕ → Bool
is_unsound file number = not (is_sound (right_at file number))

abbrev pub is_beyond : List ℕ → ℕ → Bool
is_beyond file number = not (is_within_limits (right_at file number))

abbrev pub is_late : ℕ → List ℕ → ℕ → Bool
is_late year file number = not (leb (right_at file number).last (days_in_year year))

-- how many records a search went past
abbrev pub passed : Noted → ℕ
passed noted = noted.end / record_bytes

-- what a search for the live records has come to: each record that it went past is sound, the places of the live ones are noted, and the joined
-- words show whether one of those is beyond a limit, or late
pub record Searched (year : ℕ) (file : List ℕ) (hour : OperatingHour) (places : List ℕ) (noted : Noted) : Type 0 where
  pub sound : any_below (is_unsound file) (passed noted) ≡ false
  pub low : is_within_limits (right_of noted.low 0) ≡ not (any_below (is_beyond file) (passed noted))
  pub late : ltb noted.late (2 ^ 16) ≡ not (any_below (is_late year file) (passed noted))
  pub live : AreLive file hour (number_in places) noted.live (passed noted)
  pub whole : (i : ℕ) → i < noted.live → get_or places i 0 % record_bytes ≡ 0
  pub end_whole : noted.end % record_bytes ≡ 0
  pub within : noted.end ≤ length file

-- what the search gives: it has come to the end of the file, or to a record that is not sound
pub record LiveNoted (year : ℕ) (file : List ℕ) (hour : OperatingHour) (places : List ℕ) (noted : Noted) : Type 0 where
  pub to_here : Searched year file hour places noted
  pub stops : noted.end < length file → is_unsound file (passed noted) ≡ true

-- a record of a file of so many bytes is bad, by what the search gave
abbrev pub met_a_bad_one : Noted → ℕ → Bool
met_a_bad_one noted bytes = ltb noted.end bytes || not (is_within_limits (right_of noted.low 0)) || not (ltb noted.late (2 ^ 16))

-- the record at each of these places is in the file, has a good owner, kind and size, and has its prices, none of which is wild
pub record ArePriced (file : List ℕ) (prices : List ℤ) (places : List ℕ) : Type 0 where
  pub tame : any_wild prices ≡ false
  pub few : length places ≤ most_bytes / record_bytes
  pub whole : (i : ℕ) → i < length places → get_or places i 0 % record_bytes ≡ 0
  pub inside : (i : ℕ) → i < length places → number_in places i < record_count file
  pub owned : (i : ℕ) → i < length places → good_owner (right_at file (number_in places i)) ≡ true
  pub kinded : (i : ℕ) → i < length places → (right_at file (number_in places i)).kind ≤ 1
  pub sized : (i : ℕ) → i < length places → good_size (right_at file (number_in places i)) ≡ true
  pub priced : (i : ℕ) → i < length places → is_unpriced (length prices) (right_at file (number_in places i)) ≡ false

-- an owner's cents of the live record of a number, 0 where it is another's
abbrev pub live_row : List ℕ → List ℤ → ℕ → ℕ → ℤ
live_row file prices owner number = own_row file owner (λ k. live_cents prices (right_at file k)) number

-- an owner's sum of these over the records at these places
abbrev pub live_sum : List ℕ → List ℤ → List ℕ → ℕ → ℤ
live_sum file prices places owner = sum_below (λ i. live_row file prices owner (number_in places i)) (length places)
