-- Words joined bit by bit, and words that differ: a limit that is a power of two holds of a joined word where it holds of both.
-- Assumes nothing.
use Prim.Native.Nat.{ℕ, zero, suc, ◌+◌, ◌*◌, ◌/◌, ◌%◌, ◌^◌}
use mathlib.Core.Path.{◌≡◌, refl, sym, ap, ◌∙◌}
use mathlib.Core.Bool.{Bool, true, false, ◌&&◌}
use native.Mathlib.Omega.{arith}
use lib.Dec.{ltb}
use borrow.Author.Tests.{ltb-true, ltb-false, le-ltb, lt-ltb}
use Rattle.std.specs.Int.Bits.{bit_or, bit_xor, xor_self, xor_assoc, xor_zero_l, xor_zero_r}
use Rattle.std.proofs.lemmas.Nat.{le_or_l, le_or_r, or_lt, or_mod, or_shr, pow-add}
use Rattle.numbers.specs.Words.{part_of}

-- a joined word is below a power of two where both are
pub join_below : (k one two : ℕ) → ltb (bit_or one two) (2 ^ k) ≡ (ltb one (2 ^ k) && ltb two (2 ^ k))
join_below k one two = by_tests (ltb one (2 ^ k)) (ltb two (2 ^ k)) refl refl
  where
    by_tests : (a b : Bool) → ltb one (2 ^ k) ≡ a → ltb two (2 ^ k) ≡ b → ltb (bit_or one two) (2 ^ k) ≡ (a && b)
    by_tests true true first second = lt-ltb (bit_or one two) (2 ^ k) (or_lt k one two (ltb-true one (2 ^ k) first) (ltb-true two (2 ^ k) second))
    by_tests true false first second = le-ltb (bit_or one two) (2 ^ k) (omega (arith, le_or_r one two, ltb-false two (2 ^ k) second))
    by_tests false b first second = le-ltb (bit_or one two) (2 ^ k) (omega (arith, le_or_l one two, ltb-false one (2 ^ k) first))

-- the bytes' powers by bits
power : (k : ℕ) → 256 ^ k ≡ 2 ^ (8 * k)
power zero = refl
power (suc k) =
    ap (λ (n : ℕ). 256 ^ n) (let more : suc k ≡ k + 1 = omega arith in more)
    ∙ pow-add 256 k 1
    ∙ ap (λ (n : ℕ). n * 256) (power k)
    ∙ sym (pow-add 2 (8 * k) 8)
    ∙ ap (λ (n : ℕ). 2 ^ n) (let more : 8 * k + 8 ≡ 8 * suc k = omega arith in more)

-- a part of a joined word is the two parts joined
pub join_part : (n one two at : ℕ) → part_of n (bit_or one two) at ≡ bit_or (part_of n one at) (part_of n two at)
join_part n one two at =
    rw (power at)
    (rw (power n)
    (ap (λ (k : ℕ). k % 2 ^ (8 * n)) (or_shr one two (8 * at)) ∙ or_mod (one / 2 ^ (8 * at)) (two / 2 ^ (8 * at)) (8 * n)))

-- words that differ in no bit are one word
pub same_word : (one two : ℕ) → bit_xor one two ≡ 0 → one ≡ two
same_word one two none =
    sym (xor_zero_r one)
    ∙ ap (bit_xor one) (sym (xor_self two))
    ∙ sym (xor_assoc one two two)
    ∙ ap (λ (k : ℕ). bit_xor k two) none
    ∙ xor_zero_l two
