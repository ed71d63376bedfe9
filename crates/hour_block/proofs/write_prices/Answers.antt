use Rattle.std.proofs.Common.{rules, ◌+◌, ◌*◌, refl, arith, w32, ◌∙◌}
use Rattle.std.proofs.lemmas.Int.{to_z-of_z}
use Rattle.numbers.specs.Limits.{nodes}
use Rattle.numbers.specs.Lists.{list_below}
use Rattle.numbers.proofs.Counts.{filled_more, filled_all}
use Rattle.hour_block.specs.Block.{price_in, prices_in}
use Rattle.hour_block.proofs.Words.{chunk_read}
use Rattle.hour_block.proofs.write_prices.Goals as goal

pub loop-node-init : goal.loop-node-init
unfolding list_below
loop-node-init c = refl

pub loop-node-preserved : goal.loop-node-preserved
unfolding price_in
loop-node-preserved c =
    let block = c.args.block.now in
    let node = c.loop-node.node in
    let at = 8 + node * 4 in
    let read = chunk_read block c.as_chunks.result.0.now 8 _ _ node at c.as_chunks.ensures.front (omega arith) (omega arith) (omega arith) in
    filled_more (price_in block) _ node _ (omega arith) (to_z-of_z w32 _ (search rules) ∙ c.from_le_bytes.ensures ∙ read) c.loop-node.invariant

pub returns : goal.returns
unfolding prices_in
returns c = filled_all _ _ _ nodes (omega arith) (omega arith) c.loop-node.invariant
