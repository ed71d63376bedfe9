-- The record, or nothing.
use Rattle.std.proofs.Common.{sym, ◌∙◌, arith}
use Rattle.statement_text.specs.Sentence.{record_phrase}
use Rattle.statement_text.proofs.Pieces.{put_nothing}
use Rattle.statement_text.proofs.sentence.write_record.Goals as goal

pub returns-then-is_of_record-clause-put : goal.returns-then-is_of_record-clause-put
unfolding record_phrase
returns-then-is_of_record-clause-put c = rw (sym c.is_of_record.ensures ∙ c.if-is_of_record.true) c.write_numbered.ensures.put

pub returns-else-is_of_record-clause-put : goal.returns-else-is_of_record-clause-put
unfolding record_phrase
returns-else-is_of_record-clause-put c = rw (sym c.is_of_record.ensures ∙ c.if-is_of_record.false) (put_nothing (omega arith))
