-- Whole parts and remainders of a split: each share, their sums, and that the unpaid cents are no more than the remainders above 0.
-- Assumes nothing.
use Prim.Native.Nat.{ℕ, ◌+◌, ◌*◌, ◌/◌, ◌%◌, ◌≤◌, ◌<◌}
use mathlib.Core.List.{List}
use mathlib.Core.Path.{◌≡◌, refl, ap, subst, ◌∙◌}
use native.Mathlib.Nat.{add-sub_of_le, mul-le-mul, mul-div-le, mod_def, mod-lt, le_of_mul-le-mul_left, lt_of_mul-lt-mul_left, mul-le-mul_right, le_of_lt}
use native.Mathlib.Omega.{arith}
use lib.Dec.{ltb}
use lib.ListN.{length, get_or}
use Rattle.numbers.specs.Limits.{most_cents}
use Rattle.numbers.specs.Lists.{total, count_below, list_below}
use Rattle.numbers.proofs.Counts.{list_below_get_or, list_below_ext, total_add, total_scale, total_le_count, total_next, total_longer, get_or_le_total}
use Rattle.split.specs.Split.{want, whole_part, remainder, unpaid_cents}

module _ (fund : ℕ) (wants : List ℕ) where
  -- a share, times D, is its whole part and its remainder
  pub whole_and_remainder : (i : ℕ) → total wants * whole_part fund wants i + remainder fund wants i ≡ fund * want wants i
  unfolding whole_part remainder
  whole_and_remainder i = add-sub_of_le (mul-div-le (fund * want wants i) (total wants))

  pub remainder_small : (i : ℕ) → 0 < total wants → remainder fund wants i < total wants
  unfolding whole_part remainder
  remainder_small i h =
      subst (λ (r : ℕ). r < total wants) (mod_def (fund * want wants i) (total wants)) (mod-lt (fund * want wants i) h)

  -- all shares together, times D, are the fund times D
  pub shares_total :
      total wants * total (list_below (whole_part fund wants) (length wants)) + total (list_below (remainder fund wants) (length wants))
      ≡ fund * total wants
  shares_total =
      let D = total wants in
      let n = length wants in
      let w = whole_part fund wants in
      let r = remainder fund wants in
      let parts = total_add (λ i. D * w i) r n in
      let scaled = total_scale D w n in
      let same = ap total (list_below_ext (λ i. D * w i + r i) (λ i. fund * want wants i) n (λ i l. whole_and_remainder i)) in
      let out = total_scale fund (want wants) n in
      let all = ap (λ (s : ℕ). fund * s) (ap total (list_below_get_or wants 0)) in
      omega arith

  module _ (short : fund < total wants) where
    -- the whole parts and the unpaid cents are the fund
    pub whole_and_unpaid : total (list_below (whole_part fund wants) (length wants)) + unpaid_cents fund wants ≡ fund
    unfolding unpaid_cents
    whole_and_unpaid =
        add-sub_of_le (le_of_mul-le-mul_left {k = total wants} (omega (arith, shares_total)) (omega arith))

    -- the remainders come to D for each unpaid cent
    pub unpaid_times : total wants * unpaid_cents fund wants ≡ total (list_below (remainder fund wants) (length wants))
    unpaid_times = let e = ap (λ (s : ℕ). total wants * s) whole_and_unpaid in omega (arith, shares_total)

    -- so there are no more unpaid cents than remainders above 0
    pub unpaid_le_remainders : unpaid_cents fund wants ≤ count_below (λ i. ltb 0 (remainder fund wants i)) (length wants)
    unpaid_le_remainders =
        let most = total_le_count (remainder fund wants) (total wants) (length wants) (λ i l. let s = remainder_small i (omega arith) in omega arith) in
        le_of_mul-le-mul_left {k = total wants} (omega (arith, unpaid_times)) (omega arith)

    -- a whole part is at most the want, and less if there is a remainder
    pub whole_le_want : (i : ℕ) → whole_part fund wants i ≤ want wants i
    whole_le_want i =
        let less = mul-le-mul_right (want wants i) (le_of_lt short) in
        le_of_mul-le-mul_left {k = total wants} (omega (arith, whole_and_remainder i)) (omega arith)

    pub whole_lt_want : (i : ℕ) → 0 < remainder fund wants i → whole_part fund wants i < want wants i
    whole_lt_want i remainder =
        let less = mul-le-mul_right (want wants i) (le_of_lt short) in
        lt_of_mul-lt-mul_left (total wants) (omega (arith, whole_and_remainder i))

-- ---- the code's steps, by the sum of the wants

-- its whole part and its remainder are those of the rule
pub whole_is : (fund sum : ℕ) (wants : List ℕ) (i : ℕ) → sum ≡ total wants → fund * get_or wants i 0 / sum ≡ whole_part fund wants i
unfolding whole_part
whole_is fund sum wants i is_sum = ap (λ (d : ℕ). fund * get_or wants i 0 / d) is_sum

pub remainder_is : (fund sum : ℕ) (wants : List ℕ) (i : ℕ) → sum ≡ total wants → fund * get_or wants i 0 % sum ≡ remainder fund wants i
unfolding whole_part remainder
remainder_is fund sum wants i is_sum =
    ap (λ (d : ℕ). fund * get_or wants i 0 % d) is_sum ∙ mod_def (fund * get_or wants i 0) (total wants)

-- a fund below the sum times a want fits 64 bits
pub share_fits : (fund : ℕ) (wants : List ℕ) (i : ℕ) → fund < total wants → total wants ≤ most_cents
    → fund * get_or wants i 0 ≤ most_cents * most_cents
share_fits fund wants i short within =
    mul-le-mul {n₂ = most_cents} {m₂ = most_cents} (omega arith) (omega (arith, get_or_le_total wants i))

-- the whole parts up to i and the next one are no more than the fund
pub whole_within : (fund : ℕ) (wants : List ℕ) (i : ℕ) → fund < total wants → i < length wants
    → total (list_below (whole_part fund wants) i) + whole_part fund wants i ≤ fund
whole_within fund wants i short l =
    omega (
      arith,
      total_next (whole_part fund wants) i,
      total_longer (whole_part fund wants) (i + 1) (length wants) (omega arith),
      whole_and_unpaid fund wants (omega arith),
    )

-- before the first whole part
pub none_paid : (f : ℕ → ℕ) → total (list_below f 0) ≡ 0
unfolding list_below total
none_paid f = refl

pub ruleset whole_parts = (whole_is, remainder_is, share_fits, whole_within, none_paid, total_next)

-- a whole part is no more than the sum of the wants
pub whole_within_most : (fund : ℕ) (wants : List ℕ) (i : ℕ) → fund < total wants → whole_part fund wants i ≤ total wants
whole_within_most fund wants i short = omega (arith, whole_le_want fund wants short i, get_or_le_total wants i)
