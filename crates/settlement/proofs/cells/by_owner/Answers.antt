-- The month's cell at an even place, the year's at the next one.
use Rattle.std.proofs.Common.{rules}
use Rattle.numbers.proofs.Counts.{list_from_fn}
use Rattle.settlement.specs.ByOwner.{by_owner}
use Rattle.settlement.proofs.cells.by_owner.Goals as goal

pub returns : goal.returns
unfolding by_owner
returns c = list_from_fn _ c.from_fn.ensures.items (λ i inside q x call. (search rules, search rules))
