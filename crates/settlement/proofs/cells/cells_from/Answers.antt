-- Every second cell, owner by owner.
use Rattle.std.proofs.Common.{rules}
use Rattle.numbers.proofs.Counts.{list_from_fn}
use Rattle.settlement.specs.ByOwner.{cells_from}
use Rattle.settlement.proofs.cells.cells_from.Goals as goal

pub returns : goal.returns
unfolding cells_from
returns c = list_from_fn _ c.from_fn.ensures.items (λ i inside q x call. (search rules, search rules))
