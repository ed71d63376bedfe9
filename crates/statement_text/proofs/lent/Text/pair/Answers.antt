-- The two bytes of the table are the number's two digits.
use Rattle.statement_text.proofs.Pieces.{put_as}
use Rattle.statement_text.proofs.Decimal.{table_pair}
use Rattle.statement_text.proofs.lent.Text.pair.Goals as goal

pub returns : goal.returns
returns c = put_as (table_pair c.args.number c.requires.0) c.put.ensures
