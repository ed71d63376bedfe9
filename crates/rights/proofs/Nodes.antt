-- A word laid over itself two bytes further on shows whether sink and source differ.
-- Assumes nothing.
use Prim.Native.Nat.{ℕ, ◌/◌, ◌%◌, ◌^◌, ◌≤◌}
use mathlib.Core.Path.{◌≡◌, sym, ap, ◌∙◌}
use mathlib.Core.Bool.{not}
use native.Mathlib.Decide.{ℕ_discrete}
use native.Mathlib.Omega.{arith}
use lib.Dec.{eqb, leb}
use borrow.Author.Tests.{eq-eqb, ne_eqb, le-leb, lt-leb}
use Rattle.std.specs.Int.Bits.{bit_xor, xor_self}
use Rattle.std.proofs.lemmas.Nat.{xor_mod, xor_shr}
use Rattle.numbers.specs.Words.{part_of}
use Rattle.numbers.proofs.Bits.{same_word}

module _ (low : ℕ) where
  abbrev sink : ℕ
  sink = part_of 2 low 4

  abbrev source : ℕ
  source = part_of 2 low 2

  -- the word laid over itself
  abbrev over : ℕ
  over = bit_xor low (low / 2 ^ 16)

  -- the bytes where the one stands on the other
  both : over % 2 ^ 32 / 2 ^ 16 ≡ bit_xor source sink
  both =
      (let inside : over % 2 ^ 32 / 2 ^ 16 ≡ over / 2 ^ 16 % 2 ^ 16 = omega arith in inside)
      ∙ ap (λ (k : ℕ). k % 2 ^ 16) (xor_shr low (low / 2 ^ 16) 16)
      ∙ xor_mod (low / 2 ^ 16) (low / 2 ^ 16 / 2 ^ 16) 16
      ∙ ap (bit_xor source) (let further : low / 2 ^ 16 / 2 ^ 16 % 2 ^ 16 ≡ sink = omega arith in further)

  pub nodes_differ : leb (2 ^ 16) (over % 2 ^ 32) ≡ not (eqb sink source)
  nodes_differ = by_nodes (ℕ_discrete sink source)
    where
      by_nodes : Dec (sink ≡ source) → leb (2 ^ 16) (over % 2 ^ 32) ≡ not (eqb sink source)
      by_nodes (yes e) =
          let none : bit_xor source sink ≡ 0 = ap (bit_xor source) e ∙ xor_self source in
          lt-leb (2 ^ 16) (over % 2 ^ 32) (omega (arith, both, none)) ∙ sym (ap not (eq-eqb sink source e))
      by_nodes (no f) =
          le-leb (2 ^ 16) (over % 2 ^ 32) (above (ℕ_discrete (bit_xor source sink) 0)) ∙ sym (ap not (ne_eqb sink source f))
        where
          above : Dec (bit_xor source sink ≡ 0) → 2 ^ 16 ≤ over % 2 ^ 32
          above (yes none) = absurd (f (sym (same_word source sink none)))
          above (no some) = omega (arith, both, some)
