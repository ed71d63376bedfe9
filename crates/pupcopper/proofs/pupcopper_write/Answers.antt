-- The write's number, and the file after it, of the right as it was given.
use Rattle.std.proofs.Common.{ap, ◌∙◌}
use Rattle.numbers.specs.Refusals.{answer_number}
use Rattle.rights.specs.Layout.{record_refusal}
use Rattle.rights.specs.Writing.{file_after}
use Rattle.rights.proofs.RecordCalls.{record_15, record_number}
use Rattle.pupcopper.proofs.ReportWords.{right_given, dated_right_number}
use Rattle.pupcopper.proofs.RightWords.{held_refusal, held_file}
use Rattle.pupcopper.proofs.pupcopper_write.Goals as goal

pub returns-clause-value : goal.returns-clause-value
returns-clause-value c =
    c.number_of.ensures
    ∙ ap answer_number c.write-outcome.ensures.value
    ∙ record_number _ _ _ _ _
    ∙ ap (record_refusal c.args.year c.args.rights.now c.args.number) c.right_of.ensures
    ∙ held_refusal c.args.year _ c.args.rights.now c.args.number
    ∙ dated_right_number c.args.year 8 _ _ c.if-right-ne-RIGHT_WORDS.false (record_15 c.args.year c.args.rights.now c.args.number _)

pub returns-clause-rights_after : goal.returns-clause-rights_after
returns-clause-rights_after c =
    c.write-outcome.ensures.file_after
    ∙ ap (file_after c.args.year c.args.rights.now c.args.number) c.right_of.ensures
    ∙ held_file c.args.year _ c.args.rights.now c.args.number
    ∙ right_given 8 _ _ _ c.if-right-ne-RIGHT_WORDS.false
