-- The end where it is due, nothing where it is not or the run has stopped.
use Rattle.std.proofs.Common.{◌≡◌, refl, sym, ◌∙◌}
use Rattle.settlement.specs.Events.{event_of}
use Rattle.settlement.specs.declared.End.{End}
use Rattle.settlement.specs.declared.End.TheVariants.{Month, Year}
use Rattle.settlement.specs.Ends.{end_call, event_at}
use Rattle.settlement_run.proofs.Appending.{event_appended, number_is, appended_stopped, not_due, when_due}
use Rattle.settlement_run.proofs.Run.close_if_due.Goals as goal

event_is : (end : End) → event_at end ≡ event_of (end_call end)
event_is Month = refl
event_is Year = refl

pub returns-then-self-ne0 : goal.returns-then-self-ne0
returns-then-self-ne0 c = appended_stopped c.args.self.now _ c.args.text.now c.if-self-ne0.true

pub returns-then-not-is_due : goal.returns-then-not-is_due
returns-then-not-is_due c =
    let s = c.args in
    let asked = rw (c.from-event.ensures, event_is s.end) at c.is_due.ensures in
    not_due (end_call s.end) s.self.now s.text.now c.if-self-ne0.false (sym asked ∙ c.if-not-is_due.true) c.go_on.ensures

pub returns : goal.returns
returns c =
    let s = c.args in
    let run = s.self.now in
    let asked = rw (c.from-event.ensures, event_is s.end) at c.is_due.ensures in
    let numbered = rw (c.from-event.ensures, event_is s.end, number_is (end_call s.end) _) at c.number_of-number.ensures in
    let appended = rw (c.from-event.ensures, event_is s.end, numbered) at c.print_event.ensures in
    when_due (end_call s.end) run s.text.now c.if-self-ne0.false (sym asked ∙ c.if-not-is_due.false)
    (event_appended (end_call s.end) run c.pay_short-outcome.ensures refl appended)
