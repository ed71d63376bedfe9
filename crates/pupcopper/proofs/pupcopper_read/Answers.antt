-- The read's number, and its fields in the report.
use Rattle.std.proofs.Common.{ap, ◌∙◌}
use Rattle.numbers.specs.Refusals.{answer_number}
use Rattle.rights.specs.Layout.{refused_reading}
use Rattle.rights.proofs.Readings.{read_or_none, read_number, read_no_year}
use Rattle.pupcopper.specs.Calls.{right_report}
use Rattle.pupcopper.proofs.ReportWords.{value_words, right_given, dated_right_number}
use Rattle.pupcopper.proofs.pupcopper_read.Goals as goal

pub returns-clause-report_after : goal.returns-clause-report_after
returns-clause-report_after c =
    c.copy_from_slice.ensures.after
    ∙ value_words right_report (refused_reading 0).right c.read-outcome.ensures (read_or_none _ _ _) c.map_or.ensures
    ∙ right_given 8 _ _ _ c.if-report-ne-RIGHT_WORDS.false

pub returns-clause-value : goal.returns-clause-value
returns-clause-value c =
    c.number_of.ensures
    ∙ ap answer_number c.read-outcome.ensures
    ∙ read_number _ _ _
    ∙ dated_right_number c.args.year 8 _ _ c.if-report-ne-RIGHT_WORDS.false (read_no_year c.args.year c.args.rights.now c.args.number)
