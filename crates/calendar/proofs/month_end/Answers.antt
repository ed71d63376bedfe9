-- The end of a month with and without a 29 February, and none past the last month.
-- Assumes nothing.
use Rattle.std.proofs.Common.{◌+◌, ◌*◌, ◌&&◌, ℕ, Bool, cond, sym, ap, ◌∙◌}
use mathlib.Core.Path.{ap₂}
use lib.Dec.{leb}
use borrow.Author.Tests.{ltb-true}
use Rattle.std.proofs.lemmas.Grind.{get_or_default_zero}
use Rattle.calendar.specs.declared.TheConstants.{MONTH_ENDS}
use Rattle.numbers.proofs.Booleans.{flag_byte}
use Rattle.calendar.proofs.MonthEnds.{month_end_is, no_month_end}
use Rattle.calendar.proofs.month_end.Goals as goal

pub returns-in_default : goal.returns-in_default
returns-in_default c = sym (no_month_end c.args.year c.args.month c.in_default.ensures.lookup.3)

pub returns : goal.returns
returns c =
    ap₂ (λ (end later : ℕ). end + 24 * later)
    (c.in-Some.ensures.lookup.1
    ∙ get_or_default_zero MONTH_ENDS c.args.month c.in-Some.end.now (ltb-true c.args.month 12 (sym c.in-Some.ensures.lookup.0)))
    (c.from.ensures ∙ flag_byte (leb 8 c.args.month && c.has_leap_day.result) ∙ ap (λ (leap : Bool). cond (leb 8 c.args.month && leap) 1 0) c.has_leap_day.ensures)
    ∙ sym (month_end_is c.args.year c.args.month (ltb-true c.args.month 12 (sym c.in-Some.ensures.lookup.0)))
