-- The prices so far are those of the nodes so far.
use Rattle.std.proofs.Common.{◌≡◌, take}
use Rattle.numbers.specs.Lists.{list_below}
use Rattle.hour_block.specs.Block.{price_in}
use Rattle.hour_block.proofs.write_prices.Given as goal

abbrev pub invariant-loop-node : goal.invariant-loop-node
invariant-loop-node l = take l.node l.prices ≡ list_below (price_in l.block) l.node
