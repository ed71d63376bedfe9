-- The code's table is that of the definition.
use Rattle.std.proofs.Common.{rules, ap, ◌∙◌}
use Rattle.statement_text.specs.Sentence.{word_of}
use Rattle.statement_text.proofs.SentenceParts.{word_at, past_words}
use Rattle.statement_text.proofs.sentence.word_of.Goals as goal

pub returns-then-place-lt18-clause-value : goal.returns-then-place-lt18-clause-value
returns-then-place-lt18-clause-value c = rw (← c.from-place.ensures) (search (rules, word_at))

pub returns-clause-value : goal.returns-clause-value
returns-clause-value c = past_words _ c.if-place-lt18.false ∙ ap word_of c.from-place.ensures
