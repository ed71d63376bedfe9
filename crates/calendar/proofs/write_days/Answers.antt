-- One entry more is that of its day.
use Rattle.std.proofs.Common.{refl, arith}
use Rattle.numbers.specs.Lists.{list_below}
use Rattle.numbers.proofs.Counts.{filled_more, filled_all}
use Rattle.calendar.specs.Year.{day_entry}
use Rattle.calendar.proofs.write_days.Goals as goal

pub loop-before-init : goal.loop-before-init
unfolding list_below
loop-before-init c = refl

pub loop-before-preserved : goal.loop-before-preserved
loop-before-preserved c =
    filled_more (day_entry c.args.year) _ _ _ (omega arith) c.made_entry.ensures c.loop-before.invariant

pub returns : goal.returns
returns c = filled_all (day_entry c.args.year) _ _ _ (omega arith) (omega arith) c.loop-before.invariant
