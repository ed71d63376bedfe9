-- Nothing without room or once the run has stopped, else the three events one behind another.
use Rattle.std.proofs.Common.{not, rules, arith}
use Rattle.settlement_run.proofs.Stepping.{lacks_said, step_full, step_stopped, step_settled}
use Rattle.settlement_run.proofs.step.Goals as goal

pub returns-then-run : goal.returns-then-run
returns-then-run c =
    let said = lacks_said _ _ _ c.has_room.ensures in
    let is = step_full c.args.rights.now c.args.block.now c.args.run c.args.text.now (search rules) (not c.has_room.result) said c.if-run.true in
    record { value = is.0; text_after = is.1 }

pub returns-then-run-ne0 : goal.returns-then-run-ne0
returns-then-run-ne0 c =
    let said = lacks_said _ _ _ c.has_room.ensures in
    let is = step_stopped c.args.rights.now c.args.block.now c.args.run c.args.text.now (search rules) (not c.has_room.result) said c.if-run.false (λ z. omega arith) in
    record { value = is.0; text_after = is.1 }

pub returns : goal.returns
returns c =
    let said = lacks_said _ _ _ c.has_room.ensures in
    let is =
    step_settled c.args.rights.now c.args.block.now c.args.run c.args.text.now (search rules) (not c.has_room.result) said c.if-run.false (omega arith)
    c.settle_hour.ensures c.close_if_due.ensures c.close_if_due-2.ensures in
    record { value = is.0; text_after = is.1 }
