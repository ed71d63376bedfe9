use Rattle.std.proofs.Common.{rules}
use Rattle.numbers.proofs.Counts.{list_from_fn}
use Rattle.settlement.specs.Events.{unpaid_of}
use Rattle.settlement.proofs.cells.unpaid_of.Goals as goal

pub returns : goal.returns
unfolding unpaid_of
returns c = list_from_fn _ c.from_fn.ensures.items (λ i inside q x call. (search rules, search rules))
