-- The first one or two digits, and a pair or two behind them.
use Rattle.std.proofs.Common.{sym, arith}
use Rattle.statement_text.proofs.Decimal.{last_pair, last_pairs}
use Rattle.statement_text.proofs.Pieces.{put_then, put_as}
use Rattle.statement_text.proofs.lent.Text.digits.Goals as goal

pub returns-then-number-lt10000 : goal.returns-then-number-lt10000
returns-then-number-lt10000 c =
    put_as (sym (last_pair c.args.number (omega arith) c.ranges.number.fits))
    (put_then c.first-then-number-lt10000.ensures.put c.pair.ensures)

pub returns-then-number-lt1000000 : goal.returns-then-number-lt1000000
returns-then-number-lt1000000 c =
    put_as (sym (last_pairs c.args.number (omega arith) c.ranges.number.fits))
    (put_then (put_then c.first-then-number-lt1000000.ensures.put c.pair-then-number-lt1000000.ensures) c.pair-then-number-lt1000000-2.ensures)
