-- The call that the event makes.
use Rattle.settlement.specs.Events.{year_end_call}
use Rattle.pupcopper.proofs.pupcopper_year_end.Given as goal

abbrev pub ghost-settle : goal.ghost-settle
ghost-settle a = year_end_call
