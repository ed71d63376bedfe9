-- The months are counted end by end.
-- Assumes nothing.
use Rattle.std.proofs.Common.{◌+◌, ◌≤◌, ℕ, List, cond, sym, ap, ◌∙◌, refl, arith}
use Prim.Native.Nat.{zero-le}
use mathlib.Core.Path.{ap₂}
use lib.Dec.{leb}
use Rattle.std.proofs.lemmas.List.{take_all}
use Rattle.calendar.specs.Year.{month_ends, ended_by, month_of}
use Rattle.numbers.proofs.Booleans.{flag_byte, flag_most}
use Rattle.calendar.proofs.MonthEnds.{ended_more, year_long}
use Rattle.calendar.proofs.month_of.Goals as goal

pub loop-month-init : goal.loop-month-init
unfolding ended_by
loop-month-init c = record { counted = refl; small = zero-le }

-- a month more counts for 1 at most
one_month : (c : goal.After-from-ended) → c.from-ended.result ≤ 1
one_month c =
    omega (arith, c.from-ended.ensures, flag_byte (leb c.month_end.result c.args.hour), flag_most (leb c.month_end.result c.args.hour))

pub overflow_add-ended : goal.overflow_add-ended
overflow_add-ended c = omega (arith, c.loop-month.invariant.small, c.loop-month-test.true, one_month c)

pub loop-month-preserved : goal.loop-month-preserved
loop-month-preserved c =
    record {
      counted =
          ap₂ (λ (a b : ℕ). a + b) c.loop-month.invariant.counted
          (c.from-ended.ensures
          ∙ flag_byte (leb c.month_end.result c.args.hour)
          ∙ ap (λ (end : ℕ). cond (leb end c.args.hour) 1 0) c.month_end.ensures)
          ∙ sym (ended_more (month_ends c.args.year) c.loop-month.month c.args.hour (omega (arith, c.loop-month-test.true, year_long c.args.year)));
      small = omega (arith, c.loop-month.invariant.small, one_month c);
    }

pub returns : goal.returns
unfolding month_of
returns c =
    c.loop-month.invariant.counted
    ∙ ap (λ (ends : List ℕ). ended_by ends c.args.hour) (take_all c.loop-month.month (month_ends c.args.year) (omega (arith, c.loop-month-test.false, year_long c.args.year)))
