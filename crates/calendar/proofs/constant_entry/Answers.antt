-- The rule holds at each of the 365 entries, by one test that is computed over the whole table.
-- Assumes nothing.
use Rattle.std.proofs.Common.{arith}
use Rattle.calendar.proofs.DayTable.{days_of_2025, constant_rule}
use Rattle.calendar.proofs.constant_entry.Goals as goal

pub bounds-before : goal.bounds-before
bounds-before c = omega (arith, c.requires, days_of_2025)

pub returns : goal.returns
returns c = constant_rule c.args.before (omega (arith, c.requires, days_of_2025))
