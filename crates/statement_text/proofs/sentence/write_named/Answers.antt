-- Letter by letter.
use Rattle.std.proofs.Common.{arith}
use Rattle.statement_text.specs.Sentence.{event_phrase}
use Rattle.statement_text.proofs.Pieces.{put_as}
use Rattle.statement_text.proofs.SentenceParts.{other_event}
use Rattle.statement_text.proofs.sentence.write_named.Goals as goal

pub returns-in-72-clause-put : goal.returns-in-72-clause-put
unfolding event_phrase
returns-in-72-clause-put c = rw c.in-72.is c.write_numbered.ensures.put

pub returns-in-77-clause-put : goal.returns-in-77-clause-put
unfolding event_phrase
returns-in-77-clause-put c = rw c.in-77.is c.write_numbered-in-77.ensures.put

pub returns-in-89-clause-put : goal.returns-in-89-clause-put
unfolding event_phrase
returns-in-89-clause-put c = rw c.in-89.is c.write_numbered-in-89.ensures.put

pub returns-in_default-clause-put : goal.returns-in_default-clause-put
returns-in_default-clause-put c =
    put_as (other_event _ _ (λ e. omega (arith, e)) (λ e. omega (arith, e)) (λ e. omega (arith, e))) c.put.ensures
