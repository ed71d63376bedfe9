-- The call that the event makes: with the rights, the prices and the amount that it has captured.
use Rattle.settlement.specs.Events.{hour_call}
use Rattle.pupcopper.specs.contracts.fn.pupcopper_hour.settle as closure
use Rattle.pupcopper.proofs.pupcopper_hour.Given as goal

abbrev pub ghost-settle : goal.ghost-settle
ghost-settle a =
    let captured = closure.captures a.event in
    hour_call captured.rights.now captured.prices.now captured.collected
