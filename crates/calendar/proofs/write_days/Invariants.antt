-- The entries so far are those of the days so far.
use Rattle.std.proofs.Common.{◌≡◌, take}
use Rattle.numbers.specs.Lists.{list_below}
use Rattle.calendar.specs.Year.{day_entry}
use Rattle.calendar.proofs.write_days.Given as goal

abbrev pub invariant-loop-before : goal.invariant-loop-before
invariant-loop-before l = take l.before l.table ≡ list_below (day_entry l.year) l.before
