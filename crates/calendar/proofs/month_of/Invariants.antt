-- The months counted so far are those of the first month ends that have ended.
-- Assumes nothing.
use Rattle.std.proofs.Common.{◌≡◌, ◌≤◌, take}
use Rattle.calendar.specs.Year.{month_ends, ended_by}
use Rattle.calendar.proofs.month_of.Given as goal

abbrev pub invariant-loop-month : goal.invariant-loop-month
invariant-loop-month l = record {
  counted : l.ended ≡ ended_by (take l.month (month_ends l.fn.year)) l.fn.hour;
  small : l.ended ≤ l.month;
}
