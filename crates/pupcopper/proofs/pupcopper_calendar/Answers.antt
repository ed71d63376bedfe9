-- The calendar call's number, and its values in the report.
use Rattle.std.proofs.Common.{false, ◌∙◌}
use Rattle.calendar.proofs.Hours.{hour_or_none}
use Rattle.pupcopper.specs.Calls.{hour_report}
use Rattle.pupcopper.proofs.ReportWords.{value_words, right_given}
use Rattle.pupcopper.proofs.pupcopper_calendar.Goals as goal

pub returns-clause-report_after : goal.returns-clause-report_after
returns-clause-report_after c =
    c.copy_from_slice.ensures.after
    ∙ value_words hour_report (record { day = 0; month = 0; peak = false }) c.operating_hour-outcome.ensures (hour_or_none c.args.year c.args.hour) c.map_or.ensures
    ∙ right_given 3 _ _ _ c.if-report-ne-HOUR_WORDS.false
