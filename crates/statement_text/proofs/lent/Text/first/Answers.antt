-- One digit, or two.
use Rattle.std.proofs.Common.{sym}
use Rattle.statement_text.proofs.Decimal.{one_digit, two_digits}
use Rattle.statement_text.proofs.Pieces.{put_as}
use Rattle.statement_text.proofs.lent.Text.first.Goals as goal

pub returns-then-number-lt10-clause-put : goal.returns-then-number-lt10-clause-put
returns-then-number-lt10-clause-put c = put_as (sym (one_digit c.args.number c.if-number-lt10.true)) c.put.ensures

pub returns-else-number-lt10-clause-put : goal.returns-else-number-lt10-clause-put
returns-else-number-lt10-clause-put c = put_as (sym (two_digits c.args.number c.if-number-lt10.false c.requires.0)) c.pair.ensures
