-- The sum so far and what is left come to the whole sum, and each amount adds less than 2 ^ 64.
use Rattle.std.proofs.Common.{length, drop, ◌+◌, ◌*◌, ◌^◌, ◌<◌, ◌≡◌, ◌≤◌}
use Rattle.numbers.specs.Lists.{total}
use Rattle.numbers.proofs.sums.capped_total.Given as goal

abbrev pub invariant-loop-amount : goal.invariant-loop-amount
invariant-loop-amount l = record {
  within : l.amount-index ≤ length l.amounts;
  small : l.sum < (l.amount-index + 1) * 2 ^ 64;
  comes_to : l.sum + total (drop l.amount-index l.amounts) ≡ l.fn.before + total l.amounts;
}
