-- The decode call's answer by its refusal number, the number by the two lengths, and what a caller is given.
-- Assumes nothing.
use Prim.Native.Nat.{ℕ, zero, suc}
use mathlib.Core.Path.{◌≡◌, refl, sym, ap, ◌∙◌}
use mathlib.Core.Bool.{Bool, true, false, not, ◌||◌}
use mathlib.Core.List.{List, []}
use mathlib.Core.Logic.{◌⊎◌, inl, inr}
use native.Mathlib.Omega.{arith}
use lib.Dec.{eqb}
use lib.ListN.{length}
use lib.IntN.{ℤ}
use borrow.Author.Tests.{eqb-false, eqb-true, eq-eqb}
use Rattle.std.specs.Prelude.{Ok, Err}
use Rattle.numbers.specs.Limits.{nodes}
use Rattle.numbers.specs.declared.refusal.Refusal.{Refusal}
use Rattle.numbers.specs.declared.refusal.Refusal.TheVariants.{WrongLength}
use Rattle.numbers.specs.Refusals.{answered, refusal_of}
use Rattle.numbers.proofs.Refusals.{refusal_here, refusal_next, refusal_none, answer_accepted, answer_refused}
use Rattle.hour_block.specs.Block.{hour_bytes, amount_in, prices_in, decode_refusal, decoded, prices_after}

module _ (bytes places : ℕ) where
  pub right_length : bytes ≡ hour_bytes → places ≡ nodes → decode_refusal bytes places ≡ 0
  unfolding decode_refusal
  right_length is_bytes is_places =
      refusal_next 4 [] (rw (eq-eqb bytes hour_bytes is_bytes, eq-eqb places nodes is_places) refl) ∙ refusal_none

  pub wrong_length : (bytes ≡ hour_bytes → places ≡ nodes → ⊥) → decode_refusal bytes places ≡ 4
  unfolding decode_refusal
  wrong_length wrong = refusal_here 4 [] (by_tests (eqb bytes hour_bytes) (eqb places nodes) refl refl)
    where
      by_tests : (b p : Bool) → eqb bytes hour_bytes ≡ b → eqb places nodes ≡ p → (not b || not p) ≡ true
      by_tests true true is_b is_p = absurd (wrong (eqb-true bytes hour_bytes is_b) (eqb-true places nodes is_p))
      by_tests true false is_b is_p = refl
      by_tests false p is_b is_p = refl

-- a refused call's answer
pub refused : (block : List ℕ) (places : ℕ) → (length block ≡ hour_bytes → places ≡ nodes → ⊥)
    → Err WrongLength ≡ decoded block places
unfolding decoded
refused block places wrong =
    ap (λ (n : ℕ). answered n 0 (amount_in block)) (sym (wrong_length (length block) places wrong))

pub prices_kept : (block : List ℕ) (before : List ℤ) → (length block ≡ hour_bytes → length before ≡ nodes → ⊥)
    → before ≡ prices_after block before
unfolding prices_after
prices_kept block before wrong =
    let is = wrong_length (length block) (length before) wrong in
    sym (answer_refused (decode_refusal (length block) (length before)) _ _ (λ zero. omega arith))

-- an accepted one's
pub accepted : (block : List ℕ) (places : ℕ) (amount : ℤ) → length block ≡ hour_bytes → places ≡ nodes → amount ≡ amount_in block
    → Ok amount ≡ decoded block places
unfolding decoded
accepted block places amount is_bytes is_places is_amount =
    ap (λ (z : ℤ). Ok z) is_amount
    ∙ ap (λ (n : ℕ). answered n 0 (amount_in block)) (sym (right_length (length block) places is_bytes is_places))

pub prices_written : (block : List ℕ) (before after : List ℤ) → length block ≡ hour_bytes → length before ≡ nodes
    → after ≡ prices_in block → after ≡ prices_after block before
unfolding prices_after
prices_written block before after is_bytes is_places are_prices =
    are_prices
    ∙ sym (answer_accepted (decode_refusal (length block) (length before)) _ _ (right_length (length block) (length before) is_bytes is_places))

pub ruleset answers = (refused, prices_kept)

-- ---- what a caller is given

accepted_as : (number : ℕ) (value amount : ℤ) → Ok amount ≡ answered number 0 value → (number ≡ 0) × (amount ≡ value)
accepted_as zero value amount is = (refl, cc)
accepted_as (suc n) value amount is = absurd cc

refused_as : (number : ℕ) (value : ℤ) (refusal : Refusal) → (number ≡ 0) ⊎ (number ≡ 4) → Err refusal ≡ answered number 0 value
    → (number ≡ 4) × (refusal ≡ WrongLength)
refused_as zero value refusal either is = absurd cc
refused_as (suc n) value refusal (inl e) is = absurd (omega arith)
refused_as (suc n) value refusal (inr e) is =
    let same : refusal ≡ refusal_of (suc n) 0 = cc in (e, same ∙ ap (λ (number : ℕ). refusal_of number 0) e)

either_number : (bytes places : ℕ) → (decode_refusal bytes places ≡ 0) ⊎ (decode_refusal bytes places ≡ 4)
unfolding decode_refusal
either_number bytes places = by_test (not (eqb bytes hour_bytes) || not (eqb places nodes)) refl
  where
    by_test : (test : Bool) → (not (eqb bytes hour_bytes) || not (eqb places nodes)) ≡ test
        → (decode_refusal bytes places ≡ 0) ⊎ (decode_refusal bytes places ≡ 4)
    by_test true wrong = inr (refusal_here 4 [] wrong)
    by_test false right = inl (refusal_next 4 [] right ∙ refusal_none)

-- with a place for each price the length alone decides
module _ (bytes : ℕ) where
  pub is_whole : decode_refusal bytes nodes ≡ 0 → eqb bytes hour_bytes ≡ true
  is_whole none = by_test (eqb bytes hour_bytes) refl
    where
      by_test : (test : Bool) → eqb bytes hour_bytes ≡ test → test ≡ true
      by_test true e = refl
      by_test false e = absurd (omega (arith, wrong_length bytes nodes (λ is _. eqb-false bytes hour_bytes e is)))

  pub is_broken : decode_refusal bytes nodes ≡ 4 → eqb bytes hour_bytes ≡ false
  is_broken some = by_test (eqb bytes hour_bytes) refl
    where
      by_test : (test : Bool) → eqb bytes hour_bytes ≡ test → test ≡ false
      by_test false e = refl
      by_test true e = absurd (omega (arith, right_length bytes nodes (eqb-true bytes hour_bytes e) refl))

-- with a refusal: its number, and its word
pub decoded_refused : (block : List ℕ) (places : ℕ) (refusal : Refusal) → Err refusal ≡ decoded block places
    → (decode_refusal (length block) places ≡ 4) × (refusal ≡ WrongLength)
unfolding decoded
decoded_refused block places refusal is =
    refused_as (decode_refusal (length block) places) (amount_in block) refusal (either_number (length block) places) is

-- with an amount: that of the block, which is not refused
pub decoded_amount : (block : List ℕ) (places : ℕ) (amount : ℤ) → Ok amount ≡ decoded block places
    → (decode_refusal (length block) places ≡ 0) × (amount ≡ amount_in block)
unfolding decoded
decoded_amount block places amount is = accepted_as (decode_refusal (length block) places) (amount_in block) amount is

pub decoded_prices : (block : List ℕ) (before : List ℤ) → decode_refusal (length block) (length before) ≡ 0
    → prices_after block before ≡ prices_in block
unfolding prices_after
decoded_prices block before is = answer_accepted (decode_refusal (length block) (length before)) _ _ is
