-- The number and the word, one behind another.
use Rattle.std.proofs.Common.{◌∙◌}
use Rattle.statement_text.specs.Sentence.{refusal_phrase}
use Rattle.statement_text.proofs.Pieces.{put_then, put_as}
use Rattle.statement_text.proofs.sentence.write_told.Goals as goal

pub returns-clause-put : goal.returns-clause-put
unfolding refusal_phrase
returns-clause-put c =
    put_then (put_then (rw c.from.ensures at c.write_numbered.ensures.put) c.put.ensures)
    (put_as (c.as_bytes.ensures.value ∙ c.word_of.ensures.value) c.put-2.ensures)
