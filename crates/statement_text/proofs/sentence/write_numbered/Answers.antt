-- The words, and the number behind them.
use Rattle.statement_text.proofs.Pieces.{put_then}
use Rattle.statement_text.proofs.sentence.write_numbered.Goals as goal

pub returns-clause-put : goal.returns-clause-put
returns-clause-put c = put_then c.put.ensures c.field.ensures.put
