-- No such year, a block of another length, or the hour that its bytes call for.
use Rattle.std.proofs.Common.{rules, w64, refl, sym, ◌∙◌}
use Rattle.std.proofs.lemmas.Int.{to_z-of_z}
use Rattle.numbers.specs.Limits.{nodes}
use Rattle.settlement.specs.Events.{hour_call}
use Rattle.hour_block.specs.Block.{amount_in, prices_in}
use Rattle.hour_block.proofs.Answer.{decoded_refused, decoded_amount, decoded_prices}
use Rattle.settlement_run.specs.Run.{hour_part}
use Rattle.settlement_run.proofs.Blocks.{block_outside, block_broken, block_whole}
use Rattle.settlement_run.proofs.Appending.{event_appended, appended_nothing}
use Rattle.settlement_run.proofs.Run.settle_hour.Goals as goal

pub returns-then-is_outside : goal.returns-then-is_outside
unfolding hour_part
returns-then-is_outside c =
    let run = c.args.self.now in
    rw (block_outside run.book.year _ (sym c.if-is_outside.ensures)) (appended_nothing _ run c.args.text.now refl refl c.stop.ensures)

pub returns-in-Ok : goal.returns-in-Ok
unfolding hour_part
returns-in-Ok c =
    let s = c.args in
    let run = s.self.now in
    let block = s.block.now in
    let call = hour_call s.rights.now (prices_in block) (amount_in block) in
    let decoded = decoded_amount block nodes _ c.in-Ok.ensures.value in
    let amount = to_z-of_z w64 c.in-Ok.amount (search rules) ∙ decoded.1 in
    let prices = c.in-Ok.ensures.prices_after ∙ decoded_prices block _ decoded.0 in
    let answered = rw (amount, prices) at c.settle_hour-outcome.ensures in
    rw (block_whole run.book.year _ (sym c.if-is_outside.ensures) decoded.0) (event_appended call run answered refl c.print_event.ensures)

pub returns-in-Err : goal.returns-in-Err
unfolding hour_part
returns-in-Err c =
    let s = c.args in
    let run = s.self.now in
    let refused = decoded_refused s.block.now nodes _ c.in-Err.ensures.value in
    rw (block_broken run.book.year _ (sym c.if-is_outside.ensures) refused.0) (appended_nothing _ run s.text.now refl refl (rw refused.1 at c.stop-in-Err.ensures))
