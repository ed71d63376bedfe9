-- The step's number, and its values in the report.
use Rattle.std.proofs.Common.{ℕ, cond, [], ◌∷◌, ◌++◌, ◌∙◌}
use Rattle.pupcopper.specs.Calls.{right_report}
use Rattle.pupcopper.proofs.ReportWords.{right_given}
use Rattle.pupcopper.proofs.pupcopper_next.Goals as goal

pub returns-clause-report_after : goal.returns-clause-report_after
returns-clause-report_after c =
    let step = c.next-given.ensures.steps.2 in
    c.copy_from_slice.ensures.after
    ∙ c.of_step.ensures
    ∙ (λ i. right_report (step.right i) ++ (step.moves i ∷ cond {A = ℕ} (step.none i) 1 0 ∷ []))
    ∙ right_given 10 _ _ _ c.if-report-ne-STEP_WORDS.false
