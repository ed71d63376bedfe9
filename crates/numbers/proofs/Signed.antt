-- Whole numbers of either sign, bounded by their size: laws that the kit's ℤ lacks.
-- Assumes nothing.
use Prim.Native.Nat.{ℕ, zero, suc, ◌+◌, ◌-◌, ◌*◌, ◌/◌, ◌%◌, ◌^◌, ◌≤◌, ◌<◌}
use mathlib.Core.Path.{◌≡◌, refl, ap₂, subst}
use mathlib.Core.Bool.{Bool, true, false, cond}
use native.Mathlib.Nat.{le_refl, le_trans, le-suc, lt_of_le_of_lt}
use native.Mathlib.Omega.{arith}
use native.Mathlib.Numerals.{add-one}
use lib.Dec.{ltb}
use borrow.Author.Tests.{ltb-true}
use lib.IntN.{ℤ, pos, negsuc, neg_ℤ, nat_abs, ◌+ℤ◌, ◌-ℤ◌, ◌*ℤ◌}
use lib.Signed.{mag, quot_z, rem_z}
use Rattle.numbers.specs.Lists.{sum_below}
use mir.Syntax.{Width}
use mir.Val.{SFits, hbits}

-- ---- the size of a result

pub abs_neg : (x : ℤ) → nat_abs (neg_ℤ x) ≡ nat_abs x
abs_neg (pos zero) = refl
abs_neg (pos (suc n)) = refl
abs_neg (negsuc n) = refl

abs_minus : (a b : ℕ) (test : Bool) → ltb a b ≡ test → nat_abs (cond test (negsuc (b - suc a)) (pos (a - b))) ≤ a + b
abs_minus a b true e = omega (arith, ltb-true a b e)
abs_minus a b false e = omega arith

pub abs_add : (x y : ℤ) → nat_abs (x +ℤ y) ≤ nat_abs x + nat_abs y
abs_add (pos a) (pos b) = le_refl (a + b)
abs_add (pos a) (negsuc b) = abs_minus a (suc b) (ltb a (suc b)) refl
abs_add (negsuc a) (pos b) = omega (arith, abs_minus b (suc a) (ltb b (suc a)) refl)
abs_add (negsuc a) (negsuc b) = omega arith

pub abs_sub : (x y : ℤ) → nat_abs (x -ℤ y) ≤ nat_abs x + nat_abs y
abs_sub x y = subst (λ (k : ℕ). nat_abs (x -ℤ y) ≤ nat_abs x + k) (abs_neg y) (abs_add x (neg_ℤ y))

pub abs_mul : (x y : ℤ) → nat_abs (x *ℤ y) ≡ nat_abs x * nat_abs y
abs_mul (pos a) (pos b) = refl
abs_mul (pos a) (negsuc b) = abs_neg (pos (a * suc b))
abs_mul (negsuc a) (pos b) = abs_neg (pos (suc a * b))
abs_mul (negsuc a) (negsuc b) = refl

pub abs_quot : (x : ℤ) (d : ℕ) → nat_abs (quot_z x (pos d)) ≡ nat_abs x / d
abs_quot (pos a) d = refl
abs_quot (negsuc a) d = abs_neg (pos (suc a / d))

pub abs_rem : (x : ℤ) (d : ℕ) → nat_abs (rem_z x (pos d)) ≡ nat_abs x % d
abs_rem (pos a) d = refl
abs_rem (negsuc a) d = abs_neg (pos (suc a % d))

-- ---- the range of a width

mag_abs : (x : ℤ) → mag x ≤ nat_abs x
mag_abs (pos n) = le_refl n
mag_abs (negsuc n) = le-suc n

abs_mag : (x : ℤ) → nat_abs x ≤ suc (mag x)
abs_mag (pos n) = le-suc n
abs_mag (negsuc n) = le_refl (suc n)

-- a number fits a width if its size is below half the width's power
pub abs_fits : (w : Width) (x : ℤ) → nat_abs x < 2 ^ hbits w → SFits w x
abs_fits w x h = record { sfits = lt_of_le_of_lt (mag_abs x) h }

-- and then its size is at most that power
pub fits_abs : (w : Width) (x : ℤ) → SFits w x → nat_abs x ≤ 2 ^ hbits w
fits_abs w x h = le_trans (abs_mag x) h.sfits

-- ---- sums

pub sum_none : (f : ℕ → ℤ) → sum_below f 0 ≡ pos 0
unfolding sum_below
sum_none f = refl

pub sum_next : (f : ℕ → ℤ) (n : ℕ) → sum_below f (n + 1) ≡ sum_below f n +ℤ f n
unfolding sum_below
sum_next f n = rw (add-one n)

-- sums of the same numbers
pub sum_ext : (f g : ℕ → ℤ) (n : ℕ) → ((i : ℕ) → i < n → f i ≡ g i) → sum_below f n ≡ sum_below g n
unfolding sum_below
sum_ext f g zero same = refl
sum_ext f g (suc n) same = ap₂ (λ (x y : ℤ). x +ℤ y) (sum_ext f g n (λ i l. same i (omega arith))) (same n (omega arith))
