-- The call that the event makes.
use Rattle.settlement.specs.Events.{month_end_call}
use Rattle.pupcopper.proofs.pupcopper_month_end.Given as goal

abbrev pub ghost-settle : goal.ghost-settle
ghost-settle a = month_end_call
