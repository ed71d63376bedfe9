-- For the contracts of inner functions alone, no part of what the split promises: the order by remainders in a list, and what holds between their steps.
-- Assumes nothing.
use Rattle.std.specs.Prelude.{ℕ, ◌+◌, ◌<◌, ◌≤◌, Bool, cond, List, ◌≡◌, ltb, length, get_or}
use Rattle.numbers.specs.Limits.{owners, most_cents}
use Rattle.numbers.specs.Lists.{total, count_below, list_below}
use Rattle.split.specs.Split.{whole_part, remainder, stands_ahead}

-- owner j stands ahead of owner i, by a number for each owner
abbrev pub ahead_by : (ℕ → ℕ) → ℕ → ℕ → Bool
ahead_by r i j = stands_ahead (r i) i (r j) j

-- how many of the owners stand ahead of owner i, by the list of their remainders
unfoldable pub place_of : List ℕ → ℕ → ℕ
place_of remainders i = count_below (ahead_by (λ k. get_or remainders k 0) i) (length remainders)

-- a payment, with an odd cent if fewer than the unpaid cents stand ahead
unfoldable pub with_odd_cent : List ℕ → ℕ → List ℕ → ℕ → ℕ
with_odd_cent remainders unpaid paid i = get_or paid i 0 + cond (ltb (place_of remainders i) unpaid) 1 0

-- a split that is not refused, and whose fund is below the sum of the wants
pub record Short (fund sum : ℕ) (wants places : List ℕ) : Type 0 where
  pub is_sum : sum ≡ total wants
  pub short : fund < sum
  pub within : sum ≤ most_cents
  pub as_many : length places ≡ length wants
  pub few : length wants ≤ owners

-- the whole parts are paid, the remainders are kept, and so many cents are unpaid
pub record WholePaid (fund : ℕ) (wants paid remainders : List ℕ) (unpaid : ℕ) : Type 0 where
  pub whole : (i : ℕ) → i < length wants → get_or paid i 0 ≡ whole_part fund wants i
  pub remains : (i : ℕ) → i < length wants → get_or remainders i 0 ≡ remainder fund wants i
  pub cents : unpaid + total (list_below (whole_part fund wants) (length wants)) ≡ fund
