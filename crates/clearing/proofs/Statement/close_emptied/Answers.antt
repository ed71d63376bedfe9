-- The last line ends within the buffer, which stays as long as it was.
use Rattle.std.proofs.Common.{arith}
use Rattle.settlement_run.specs.Turns.{emptied}
use Rattle.settlement_run.proofs.Within.{closing_within}
use Rattle.clearing.proofs.Statement.close_emptied.Goals as goal

pub invariant_of-self-clause-within : goal.invariant_of-self-clause-within
invariant_of-self-clause-within c =
    closing_within (emptied c.args.self.now.run) _ c.closing-self.ensures.value c.closing-self.ensures.text_after (omega arith)
