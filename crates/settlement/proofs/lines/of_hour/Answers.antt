use Rattle.std.proofs.Common.{rules}
use Rattle.settlement.specs.Events.{hour_lines}
use Rattle.numbers.proofs.Counts.{list_from_fn}
use Rattle.settlement.proofs.lines.of_hour.Goals as goal

pub returns : goal.returns
unfolding hour_lines
returns c = list_from_fn _ c.from_fn.ensures.items (λ i inside q x call. (search rules, search rules))
