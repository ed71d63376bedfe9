-- What a block calls for before its hour: no such year, a broken block, or nothing.
-- Assumes nothing.
use Prim.Native.Nat.{ℕ}
use mathlib.Core.Path.{◌≡◌}
use mathlib.Core.Bool.{true, false}
use Rattle.numbers.specs.Limits.{nodes}
use Rattle.numbers.specs.Refusals.{first_refusal}
use Rattle.calendar.specs.Almanac.{is_outside}
use Rattle.hour_block.specs.Block.{decode_refusal}
use Rattle.hour_block.proofs.Answer.{is_whole, is_broken}
use Rattle.settlement_run.specs.Run.{block_refusal}

module _ (year bytes : ℕ) where
  pub block_outside : is_outside year ≡ true → block_refusal year bytes ≡ 15
  unfolding block_refusal first_refusal
  block_outside outside = rw outside

  pub block_broken : is_outside year ≡ false → decode_refusal bytes nodes ≡ 4 → block_refusal year bytes ≡ 4
  unfolding block_refusal first_refusal
  block_broken within broken = rw (within, is_broken bytes broken)

  pub block_whole : is_outside year ≡ false → decode_refusal bytes nodes ≡ 0 → block_refusal year bytes ≡ 0
  unfolding block_refusal first_refusal
  block_whole within whole = rw (within, is_whole bytes whole)
