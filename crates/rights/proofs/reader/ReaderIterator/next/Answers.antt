-- Each return is a case of a step: for a year outside the calendar's, over a wrong length, past the last record, at a record.
use Rattle.std.proofs.Common.{refl, sym, ◌∙◌, arith}
use Rattle.rights.proofs.Steps.{step_outside, step_wrong, step_past, step_read}
use Rattle.rights.proofs.reader.ReaderIterator.next.Goals as goal

pub returns-then-is_outside-clause-steps : goal.returns-then-is_outside-clause-steps
returns-then-is_outside-clause-steps c = (refl, refl, step_outside _ _ _ (sym c.is_outside.ensures ∙ c.if-is_outside.true))

pub returns-then-wrong_length-clause-steps : goal.returns-then-wrong_length-clause-steps
returns-then-wrong_length-clause-steps c =
    (refl, refl, step_wrong _ _ _ (sym c.is_outside.ensures ∙ c.if-is_outside.false) (sym c.wrong_length.ensures ∙ c.if-wrong_length.true))

pub returns-then-self-number-clause-steps : goal.returns-then-self-number-clause-steps
returns-then-self-number-clause-steps c =
    (refl, refl, step_past _ _ _ (sym c.is_outside.ensures ∙ c.if-is_outside.false) (sym c.wrong_length.ensures ∙ c.if-wrong_length.false) (omega arith))

pub returns-clause-steps : goal.returns-clause-steps
returns-clause-steps c =
    (refl, refl, rw c.read.ensures (step_read _ _ _ (sym c.is_outside.ensures ∙ c.if-is_outside.false) (sym c.wrong_length.ensures ∙ c.if-wrong_length.false) (omega arith)))
