-- Both lengths are looked at before a price is written.
use Rattle.std.proofs.Common.{rules, arith, w64, ◌∙◌}
use Rattle.std.proofs.lemmas.Int.{to_z-of_z}
use Rattle.hour_block.proofs.Answer.{accepted, prices_written}
use Rattle.hour_block.proofs.Words.{amount_read}
use Rattle.hour_block.proofs.decode.Goals as goal

pub returns-in-Some-clause-value : goal.returns-in-Some-clause-value
returns-in-Some-clause-value c =
    let read = c.from_le_bytes.ensures ∙ amount_read c.args.block.now c.in-Some.amount.now c.in-Some.ensures.cases.same in
    accepted c.args.block.now _ _ (omega arith) (omega arith) (to_z-of_z w64 _ (search rules) ∙ read)

pub returns-in-Some-clause-prices_after : goal.returns-in-Some-clause-prices_after
returns-in-Some-clause-prices_after c =
    prices_written c.args.block.now c.args.prices.now _ (omega arith) (omega arith) c.write_prices.ensures
