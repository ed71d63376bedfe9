-- The last line, behind the text that is there.
use Rattle.std.proofs.Common.{rules}
use Rattle.settlement_run.specs.Run.{last_line}
use Rattle.settlement_run.proofs.Standing.{told_back}
use Rattle.settlement_run.proofs.Stepping.{lacks_said}
use Rattle.settlement_run.proofs.closing.Goals as goal

pub returns-clause-value : goal.returns-clause-value
unfolding last_line
returns-clause-value c = told_back c.args.run (search rules) (lacks_said _ _ _ c.has_room.ensures) (search rules)
