-- The lines so far are the rows of the records so far.
use Rattle.std.proofs.Common.{◌≡◌, take}
use Rattle.numbers.specs.Lists.{list_below}
use Rattle.target.specs.Target.{row_at}
use Rattle.target.proofs.right_rows.write_rows.Given as goal

abbrev pub invariant-loop-number : goal.invariant-loop-number
invariant-loop-number l = take l.number l.lines ≡ list_below (row_at l.rights l.prices l.hour) l.number
