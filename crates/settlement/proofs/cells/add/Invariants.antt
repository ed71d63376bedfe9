-- What is unpaid of the owners passed is added.
use Rattle.settlement.proofs.Adding.{Added}
use Rattle.settlement.proofs.cells.add.Given as goal

abbrev pub invariant-loop-owner : goal.invariant-loop-owner
invariant-loop-owner l = Added l.fn.shortfalls l.start l.unpaid l.shortfalls l.owner
