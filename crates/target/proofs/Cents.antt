-- A right's cents: how many they can be, with a good size and no wild price; and its row, by whether it is live.
-- Assumes nothing.
use Prim.Native.Nat.{ℕ, ◌+◌, ◌*◌, ◌/◌, ◌≤◌, zero-le}
use mathlib.Core.Path.{◌≡◌, refl}
use mathlib.Core.Bool.{Bool, true, false, cond}
use mathlib.Core.List.{List}
use native.Mathlib.Nat.{le_refl, le_trans, le_of_eq, mul-le-mul}
use native.Mathlib.Omega.{arith}
use lib.Dec.{leb, ltb, eqb}
use lib.ListN.{length, get_or-eq_default}
use lib.IntN.{ℤ, pos, negsuc, nat_abs}
use borrow.Author.Tests.{ltb-false, leb-true, leb-false}
use Rattle.numbers.proofs.Any.{any_miss}
use Rattle.numbers.proofs.Signed.{abs_sub, abs_mul}
use Rattle.numbers.proofs.Booleans.{neither_true}
use Rattle.calendar.specs.declared.OperatingHour.{OperatingHour}
use Rattle.rights.specs.declared.Right.{Right}
use Rattle.rights.specs.Layout.{most_size, good_size, is_live}
use Rattle.rights.proofs.Good.{good_size_lem}
use Rattle.target.specs.Target.{most_price, price_at, is_wild, wild_at, any_wild, spread, not_negative, counted, tenths, live_cents, row_cents}
use Rattle.target.proofs.Rounding.{rounded_most}

-- the most cents of one right: 100,000 tenths of a megawatt at a spread of 1,000,000 cents
abbrev pub most_cents : ℕ
most_cents = most_size * (most_price + most_price) / 10

tame : (price : ℤ) → is_wild price ≡ false → nat_abs price ≤ most_price
tame (pos n) e = ltb-false most_price n (neither_true false (ltb most_price n) e).1
tame (negsuc n) e = omega (arith, ltb-false 499_999 n (neither_true (ltb 499_999 n) false e).0)

not_negative_most : (gain : ℤ) → nat_abs (not_negative gain) ≤ nat_abs gain
not_negative_most (pos n) = le_refl n
not_negative_most (negsuc n) = zero-le

counted_most : (option : Bool) (gain : ℤ) → nat_abs (cond option (not_negative gain) gain) ≤ nat_abs gain
counted_most true gain = not_negative_most gain
counted_most false gain = le_refl (nat_abs gain)

module _ (prices : List ℤ) (no_wild : any_wild prices ≡ false) where
  price_most : (node : ℕ) → nat_abs (price_at prices node) ≤ most_price
  unfolding any_wild
  price_most node = by_test (leb (length prices) node) refl
    where
      by_test : (test : Bool) → leb (length prices) node ≡ test → nat_abs (price_at prices node) ≤ most_price
      by_test true e =
          rw (get_or-eq_default prices (pos 0) (leb-true (length prices) node e)) (omega arith)
      by_test false e =
          tame (price_at prices node)
          (any_miss (wild_at prices) (length prices) node no_wild (leb-false (length prices) node e))

  pub gain_most : (right : Right) → nat_abs (counted right.kind (spread prices right)) ≤ most_price + most_price
  gain_most right =
      omega
      (arith, counted_most (eqb right.kind 1) (spread prices right), abs_sub (price_at prices right.sink) (price_at prices right.source), price_most right.sink, price_most right.source)

  pub tenths_most : (right : Right) → good_size right ≡ true → nat_abs (tenths prices right) ≤ most_size * (most_price + most_price)
  tenths_most right sized =
      le_trans (le_of_eq (abs_mul (pos right.size) (counted right.kind (spread prices right))))
      (mul-le-mul (good_size_lem right sized) (gain_most right))

  pub live_most : (right : Right) → good_size right ≡ true → nat_abs (live_cents prices right) ≤ most_cents
  unfolding live_cents
  live_most right sized = omega (arith, rounded_most (tenths prices right), tenths_most right sized)

-- a right's row, by whether it is live
module _ (prices : List ℤ) (hour : OperatingHour) (right : Right) where
  pub row_live : is_live hour right ≡ true → row_cents prices hour right ≡ live_cents prices right
  unfolding row_cents
  row_live live = rw live

  pub row_not_live : is_live hour right ≡ false → row_cents prices hour right ≡ pos 0
  unfolding row_cents
  row_not_live other = rw other
