-- "and" and "or" of tests, taken apart; a test as a number.
-- Assumes nothing.
use mathlib.Core.Path.{◌≡◌, refl}
use mathlib.Core.Bool.{Bool, true, false, cond, not, ◌&&◌, ◌||◌}
use Prim.Native.Nat.{◌≤◌}
use native.Mathlib.Omega.{arith}
use mir.Val.{bool_byte}

-- both tests of an "and" that holds
pub both_true : (a b : Bool) → (a && b) ≡ true → (a ≡ true) × (b ≡ true)
both_true true b e = (refl, e)
both_true false b e = (e, cc)

-- neither test of an "or" that fails
pub neither_true : (a b : Bool) → (a || b) ≡ false → (a ≡ false) × (b ≡ false)
neither_true true b e = (e, cc)
neither_true false b e = (refl, e)

-- a test turned twice
pub not_not : (a : Bool) → a ≡ not (not a)
not_not true = refl
not_not false = refl

-- a flag as a number, which is 1 at most
pub flag_byte : (flag : Bool) → bool_byte flag ≡ cond flag 1 0
flag_byte true = refl
flag_byte false = refl

pub flag_most : (flag : Bool) → cond flag 1 0 ≤ 1
flag_most true = omega arith
flag_most false = omega arith
