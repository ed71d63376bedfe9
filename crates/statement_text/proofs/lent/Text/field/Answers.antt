-- A blank, and the number behind it.
use Rattle.std.proofs.Common.{arith}
use Rattle.statement_text.proofs.Decimal.{digits_room}
use Rattle.statement_text.proofs.Pieces.{put_then}
use Rattle.statement_text.proofs.lent.Text.field.Goals as goal

pub returns : goal.returns
returns c =
    record {
      put = put_then c.put.ensures c.digits.ensures;
      short = omega (arith, c.put.ensures.wrote.ends, c.digits.ensures.wrote.ends, digits_room c.args.number c.ranges.number.fits);
    }
