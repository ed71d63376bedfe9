-- The nearest cent, in two forms: the quotient by ten plus the remainder's fifths, for every number, and the upper half of a product with the highest
-- bit of its lower half, for few enough. No step leaves its width. And how many cents so many tenths are.
-- Assumes nothing.
use Prim.Native.Nat.{ℕ, zero, suc, ◌+◌, ◌*◌, ◌/◌, ◌%◌, ◌^◌, ◌-◌, ◌≤◌, ◌<◌}
use mathlib.Core.Path.{◌≡◌, refl, sym, ap, ◌∙◌}
use native.Mathlib.Nat.{zero-div, le_refl, le_of_eq}
use native.Mathlib.Omega.{arith}
use lib.IntN.{ℤ, pos, negsuc, neg_ℤ, nat_abs, ◌+ℤ◌, ◌*ℤ◌, neg_ℤ-+ℤ}
use lib.Bits.{bit_and}
use lib.Signed.{quot_z, rem_z, shr_z}
use Rattle.std.proofs.lemmas.Nat.{and_mask}
use Rattle.std.proofs.lemmas.Int.{ints, to_z-of_z}
use mir.Syntax.{Width, w64, w128}
use mir.Val.{SFits, hbits, to_z, of_z}
use Rattle.numbers.proofs.Signed.{abs_neg, abs_add, abs_mul, abs_quot, abs_rem, abs_fits, fits_abs}
use Rattle.rights.specs.Layout.{most_size}
use Rattle.target.specs.Target.{most_price}
use Rattle.target.specs.Rounding.{round_tenths}

-- the cents of the whole tenths, and of what is left of them
abbrev pub whole : ℤ → ℤ
whole tenths = quot_z tenths (pos 10)

abbrev pub part : ℤ → ℤ
part tenths = quot_z (rem_z tenths (pos 10)) (pos 5)

quot_neg : (a d : ℕ) → quot_z (neg_ℤ (pos a)) (pos d) ≡ neg_ℤ (pos (a / d))
quot_neg zero d = rw (zero-div d)
quot_neg (suc a) d = refl

nearest_cent : (n : ℕ) → n / 10 + n % 10 / 5 ≡ (n + 5) / 10
nearest_cent n = omega arith

pub nearest : (tenths : ℤ) → whole tenths +ℤ part tenths ≡ round_tenths tenths
unfolding round_tenths
nearest (pos n) = ap pos (nearest_cent n)
nearest (negsuc n) =
    ap (λ (y : ℤ). neg_ℤ (pos (suc n / 10)) +ℤ y) (quot_neg (suc n % 10) 5)
    ∙ sym (neg_ℤ-+ℤ (pos (suc n / 10)) (pos (suc n % 10 / 5)))
    ∙ ap (λ (k : ℕ). neg_ℤ (pos k)) (nearest_cent (suc n))

-- how many cents so many tenths are
pub rounded_most : (tenths : ℤ) → nat_abs (round_tenths tenths) ≤ (nat_abs tenths + 5) / 10
unfolding round_tenths
rounded_most (pos n) = le_refl ((n + 5) / 10)
rounded_most (negsuc n) = le_of_eq (abs_neg (pos ((suc n + 5) / 10)))

-- so many tenths of 2 ^ 64, a tenth rounded up
abbrev product : ℤ → ℤ
product tenths = tenths *ℤ pos (2 ^ 64 / 10 + 1)

-- and half of 2 ^ 64 more
abbrev scaled : ℤ → ℤ
scaled tenths = product tenths +ℤ pos (2 ^ 63)

-- the most tenths of one right
abbrev most : ℕ
most = most_size * (most_price + most_price)

-- without its lower 64 bits it is the nearest cent too: ten products are above the tenths' own 2 ^ 64 by four for each of the tenths, and that is
-- below 2 ^ 64 for so few
nearest_scaled : (tenths : ℤ) → nat_abs tenths ≤ most → shr_z (scaled tenths) (2 ^ 64) ≡ round_tenths tenths
unfolding round_tenths
nearest_scaled (pos n) few = ap pos (omega (arith, few))
nearest_scaled (negsuc n) few = cut_off (scaled (negsuc n)) refl
  where
    cut_off : (y : ℤ) → scaled (negsuc n) ≡ y → shr_z y (2 ^ 64) ≡ neg_ℤ (pos ((suc n + 5) / 10))
    cut_off (pos a) is = omega (arith, ints, few, is)
    cut_off (negsuc a) is = omega (arith, ints, few, is)

-- the upper half of a product, and one more where its lower half is 2 ^ 63 at least: the same as with half of 2 ^ 64 added before
halves : (z y : ℤ) → z +ℤ pos (2 ^ 63) ≡ y → nat_abs z < 2 ^ 127 → shr_z z (2 ^ 64) +ℤ pos (of_z w128 z % 2 ^ 64 / 2 ^ 63) ≡ shr_z y (2 ^ 64)
halves (pos n) (pos a) is few = ap pos (omega (arith, ints, is))
halves (pos n) (negsuc a) is few = absurd (omega (arith, ints, is))
halves (negsuc n) (pos a) is few = omega (arith, ints, is, few)
halves (negsuc n) (negsuc a) is few = omega (arith, ints, is, few)

-- what is left of a number in a width
abbrev pub kept : Width → ℤ → ℤ
kept w z = to_z w (of_z w z)

-- the lower half of a number of 128 bits
lower : (n : ℕ) → nat_abs (to_z w128 (bit_and n (2 ^ 64 - 1))) ≡ n % 2 ^ 64
lower n =
    ap (λ (k : ℕ). nat_abs (to_z w128 k)) (and_mask n 64)
    ∙ ap nat_abs (to_z-of_z w128 (pos (n % 2 ^ 64)) (abs_fits w128 (pos (n % 2 ^ 64)) (omega arith)))

upper_small : (z : ℤ) → nat_abs z < 2 ^ 98 → nat_abs (shr_z z (2 ^ 64)) < 2 ^ 40
upper_small (pos n) few = omega (arith, few)
upper_small (negsuc n) few = omega (arith, few)

-- no step leaves its width
module _ (tenths : ℤ) (few : nat_abs tenths ≤ most) where
  product_small : nat_abs (product tenths) < 2 ^ 98
  product_small = omega (arith, few, abs_mul tenths (pos (2 ^ 64 / 10 + 1)))

  product_fits : SFits w128 (product tenths)
  product_fits = abs_fits w128 (product tenths) (omega (arith, product_small))

  upper_fits : (w : Width) → 2 ^ 40 ≤ 2 ^ hbits w → SFits w (shr_z (product tenths) (2 ^ 64))
  upper_fits w wide = abs_fits w (shr_z (product tenths) (2 ^ 64)) (omega (arith, wide, upper_small (product tenths) product_small))

  rounded_fits : SFits w64 (round_tenths tenths)
  rounded_fits = abs_fits w64 (round_tenths tenths) (omega (arith, few, rounded_most tenths))

  pub nearest_kept : (given tenth : ℤ) (ones : ℕ) → given ≡ tenths → tenth ≡ pos (2 ^ 64 / 10 + 1) → ones ≡ 2 ^ 64 - 1
      → kept w64 (kept w64 (kept w128 (shr_z (kept w128 (kept w128 given *ℤ tenth)) (2 ^ 64)))
      +ℤ to_z w64 (nat_abs (to_z w128 (bit_and (of_z w128 (kept w128 given *ℤ tenth)) ones)) / 2 ^ 63))
      ≡ round_tenths tenths
  nearest_kept given tenth ones is tenth_is ones_are =
      rw is
      (rw tenth_is
      (rw ones_are
      (rw (to_z-of_z w128 tenths (abs_fits w128 tenths (omega (arith, few))))
      (rw (to_z-of_z w128 (product tenths) product_fits)
      (rw (to_z-of_z w128 (shr_z (product tenths) (2 ^ 64)) (upper_fits w128 (omega arith)))
      (rw (to_z-of_z w64 (shr_z (product tenths) (2 ^ 64)) (upper_fits w64 (omega arith)))
      (rw (lower (of_z w128 (product tenths)))
      (ap (λ (z : ℤ). kept w64 (shr_z (product tenths) (2 ^ 64) +ℤ z)) (to_z-of_z w64 (pos (of_z w128 (product tenths) % 2 ^ 64 / 2 ^ 63)) (abs_fits w64 _ (omega arith)))
      ∙ ap (kept w64) (halves (product tenths) (scaled tenths) refl (omega (arith, product_small)) ∙ nearest_scaled tenths few)
      ∙ to_z-of_z w64 (round_tenths tenths) rounded_fits))))))))

-- and in the form for every number each step fits
module _ (tenths : ℤ) (fits : SFits w64 tenths) where
  pub whole_fits : SFits w64 (whole tenths)
  whole_fits = abs_fits w64 (whole tenths) (omega (arith, fits_abs w64 tenths fits, abs_quot tenths 10))

  pub rest_fits : SFits w64 (rem_z tenths (pos 10))
  rest_fits = abs_fits w64 (rem_z tenths (pos 10)) (omega (arith, abs_rem tenths 10))

  pub part_fits : SFits w64 (part tenths)
  part_fits =
      abs_fits w64 (part tenths) (omega (arith, abs_rem tenths 10, abs_quot (rem_z tenths (pos 10)) 5))

  pub sum_fits : SFits w64 (whole tenths +ℤ part tenths)
  sum_fits =
      abs_fits w64 (whole tenths +ℤ part tenths)
      (omega
      (arith, fits_abs w64 tenths fits, abs_add (whole tenths) (part tenths), abs_quot tenths 10, abs_rem tenths 10, abs_quot (rem_z tenths (pos 10)) 5))
