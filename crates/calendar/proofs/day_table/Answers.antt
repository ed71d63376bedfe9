-- The answers of the day table's call, row by row.
use Rattle.std.proofs.Common.{◌≤◌, ◌++◌, ℕ, List, sym, ap, ◌∙◌, arith, length, drop, Ok}
use mathlib.Core.Path.{ap₂}
use Rattle.std.proofs.lemmas.List.{length-take-le}
use Rattle.numbers.specs.Lists.{list_below}
use Rattle.calendar.specs.Almanac.{days_in_year}
use Rattle.calendar.specs.Year.{day_entry, day_table}
use Rattle.calendar.proofs.DayTable.{table_no_year, table_kept_no_year, table_too_short, table_kept_short, table_taken, table_written}
use Rattle.calendar.proofs.day_table.Goals as goal

pub returns-then-is_outside-clause-value : goal.returns-then-is_outside-clause-value
returns-then-is_outside-clause-value c =
    table_no_year c.args.year c.args.table.now (sym c.if-is_outside.ensures)

pub returns-then-is_outside-clause-table_after : goal.returns-then-is_outside-clause-table_after
returns-then-is_outside-clause-table_after c =
    table_kept_no_year c.args.year c.args.table.now (sym c.if-is_outside.ensures)

pub returns-then-table-days-clause-value : goal.returns-then-table-days-clause-value
returns-then-table-days-clause-value c =
    table_too_short c.args.year c.args.table.now (sym c.if-is_outside.ensures) (omega (arith, c.if-table-days.true, c.days_in_year-days.ensures))

pub returns-then-table-days-clause-table_after : goal.returns-then-table-days-clause-table_after
returns-then-table-days-clause-table_after c =
    table_kept_short c.args.year c.args.table.now (sym c.if-is_outside.ensures) (omega (arith, c.if-table-days.true, c.days_in_year-days.ensures))

-- the table has an entry for each day
long : (c : goal.After-slice_known-2-1) → days_in_year c.args.year ≤ length c.args.table.now
long c = omega (arith, c.if-table-days.false, c.days_in_year-days.ensures)

pub returns-clause-value : goal.returns-clause-value
returns-clause-value c =
    ap Ok c.days_in_year-days.ensures ∙ table_taken c.args.year c.args.table.now (sym c.if-is_outside.ensures) (long c)

pub returns-clause-table_after : goal.returns-clause-table_after
unfolding day_table
returns-clause-table_after c =
    ap₂ (λ (entries rest : List ℕ). entries ++ rest)
    (c.write_days.ensures
    ∙ ap (list_below (day_entry c.args.year))
    (length-take-le c.days_in_year-days.result c.args.table.now c.if-table-days.false ∙ c.days_in_year-days.ensures))
    (ap (λ (n : ℕ). drop n c.args.table.now) c.days_in_year-days.ensures)
    ∙ table_written c.args.year c.args.table.now (sym c.if-is_outside.ensures) (long c)
