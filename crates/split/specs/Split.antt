-- The proportional split of a fund over a list of wants, in whole cents. What is paid and left is for any fund and any list: the bounds of
-- owners and cents, a caller's own among them, stand in the refusal table, and in what an accepted call promises.
-- Assumes nothing.
use Rattle.std.specs.Prelude.{ℕ, ◌+◌, ◌-◌, ◌*◌, ◌/◌, ◌≤◌, ◌<◌, ◌≡◌, Bool, false, cond, not, ◌&&◌, ◌||◌, List, [], ◌∷◌, leb, ltb, eqb, length, get_or, Result}
use Rattle.numbers.specs.Limits.{owners, most_cents}
use Rattle.numbers.specs.Lists.{total, count_below, list_below}
use Rattle.numbers.specs.declared.refusal.Refusal.{Refusal}
use Rattle.numbers.specs.Refusals.{first_refusal, ◌if◌, answer_by, answered}
use Rattle.split.specs.declared.Limits.{Limits}

-- w(i), the want of owner i
abbrev pub want : List ℕ → ℕ → ℕ
want wants i = get_or wants i 0

-- "the whole part of F times w(i) / D"
unfoldable pub whole_part : ℕ → List ℕ → ℕ → ℕ
whole_part fund wants i = fund * want wants i / total wants

-- "the remainder r(i) is F times w(i) less D times that whole part"
unfoldable pub remainder : ℕ → List ℕ → ℕ → ℕ
remainder fund wants i = fund * want wants i - total wants * whole_part fund wants i

-- "The cents still unpaid, E of them"
unfoldable pub unpaid_cents : ℕ → List ℕ → ℕ
unpaid_cents fund wants = fund - total (list_below (whole_part fund wants) (length wants))

-- owner j, with the remainder y, has "a larger r, or an equal r and a lower number" than owner i, with the remainder x
abbrev pub stands_ahead : ℕ → ℕ → ℕ → ℕ → Bool
stands_ahead x i y j = ltb x y || (eqb x y && ltb j i)

unfoldable pub is_ahead : ℕ → List ℕ → ℕ → ℕ → Bool
is_ahead fund wants i j = stands_ahead (remainder fund wants i) i (remainder fund wants j) j

-- "owner i gets one exactly if fewer than E others have a larger r, or an equal r and a lower number"
unfoldable pub gets_odd_cent : ℕ → List ℕ → ℕ → Bool
gets_odd_cent fund wants i = ltb (count_below (is_ahead fund wants i) (length wants)) (unpaid_cents fund wants)

-- "If F ≥ D, each is paid its want"; "Otherwise each first gets the whole part", and then perhaps one cent more
unfoldable pub payment : ℕ → List ℕ → ℕ → ℕ
payment fund wants i =
    cond (leb (total wants) fund) (want wants i) (whole_part fund wants i + cond (gets_odd_cent fund wants i) 1 0)

unfoldable pub payments : ℕ → List ℕ → List ℕ
payments fund wants = list_below (payment fund wants) (length wants)

-- "F - D is left"; otherwise "Nothing is left"
unfoldable pub left : ℕ → List ℕ → ℕ
left fund wants = cond (leb (total wants) fund) (fund - total wants) 0

-- "A payment is less than one cent from it if, where F ≥ D, it is w(i), and otherwise D times the payment and F times w(i) differ by
-- less than D"
pub record WithinACent (fund demand want paid : ℕ) : Type 0 where
  pub enough : demand ≤ fund → paid ≡ want
  pub not_above : fund < demand → demand * paid < fund * want + demand
  pub not_below : fund < demand → fund * want < demand * paid + demand

-- ---- a call, with its caller's limits

-- "The bounds become two given numbers": this many owners and this total
abbrev pub limits_of : ℕ → ℕ → Limits
limits_of most sum = record { owners = most; total = sum }

-- a number is outside 1 to the most
abbrev pub is_outside : ℕ → ℕ → Bool
is_outside most number = ltb number 1 || ltb most number

-- "owners 1 to 64 and total 1 to 4,000,000,000 (outside these, 4)"
abbrev pub has_wrong_limits : Limits → Bool
has_wrong_limits limits = is_outside owners limits.owners || is_outside most_cents limits.total

-- the refusals of a split call over these wants, with so many payments lent: 4, "split slices of unequal length or above 64", and limits outside
-- their ranges; "16 when there are more wants than that caller's owners, right after 4"; 11, "split called with D above 4,000,000,000";
-- "17 when D is above that caller's total but not above 4,000,000,000, right after 11"
unfoldable pub split_refusal : Limits → List ℕ → ℕ → ℕ
split_refusal limits wants places =
    first_refusal
    ((4 if not (eqb (length wants) places))
    ∷ (4 if ltb owners (length wants))
    ∷ (4 if has_wrong_limits limits)
    ∷ (16 if ltb limits.owners (length wants))
    ∷ (11 if ltb most_cents (total wants))
    ∷ (17 if ltb limits.total (total wants))
    ∷ [])

-- what a split call answers: what is left of the fund
unfoldable pub allocation : Limits → ℕ → List ℕ → ℕ → Result ℕ Refusal
allocation limits fund wants places = answered (split_refusal limits wants places) 0 (left fund wants)

-- what stands in the lent payments after a split call
unfoldable pub payments_after : Limits → ℕ → List ℕ → List ℕ → List ℕ
payments_after limits fund wants before = answer_by (split_refusal limits wants (length before)) (payments fund wants) before

-- what an accepted call promises a caller with these limits, "the split's facts .. for every such pair": good limits, which the wants keep;
-- what is left, and the payments, one for each want; no cent made or lost; no payment above its want, each "less than one cent from" its
-- exact share, and those of equal wants a cent apart at most, the lower number first; the wants and "F - D is left" with enough in the
-- fund, else "Nothing is left"
pub record Accepted (limits : Limits) (fund : ℕ) (wants : List ℕ) (rest : ℕ) (paid : List ℕ) : Type 0 where
  pub good_limits : has_wrong_limits limits ≡ false
  pub few : length wants ≤ limits.owners
  pub within : total wants ≤ limits.total
  pub gives : rest ≡ left fund wants
  pub pays : paid ≡ payments fund wants
  pub as_many : length paid ≡ length wants
  pub closes : total paid + rest ≡ fund
  pub at_most : (i : ℕ) → get_or paid i 0 ≤ want wants i
  pub near : (i : ℕ) → i < length wants → WithinACent fund (total wants) (want wants i) (get_or paid i 0)
  pub alike : (i j : ℕ) → i < j → j < length wants → want wants i ≡ want wants j
      → (get_or paid j 0 ≤ get_or paid i 0) × (get_or paid i 0 ≤ get_or paid j 0 + 1)
  pub enough : total wants ≤ fund → (paid ≡ wants) × (rest + total wants ≡ fund)
  pub short : fund < total wants → rest ≡ 0
