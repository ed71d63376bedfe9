-- The text of a step ends within the buffer, with room or without.
use Rattle.settlement_run.proofs.Within.{step_within}
use Rattle.clearing.proofs.Statement.step.Goals as goal

pub invariant_of-self-clause-within : goal.invariant_of-self-clause-within
invariant_of-self-clause-within c =
    step_within c.args.rights.now c.args.block.now c.args.self.now.run c.args.self.now.text c.step-self.ensures.value
    c.step-self.ensures.text_after c.args.self.now.within
