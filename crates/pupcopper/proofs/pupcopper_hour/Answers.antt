-- What the event has captured outlives it.
use Rattle.std.proofs.Common.{rules}
use borrow.Author.Rules.{lives}
use Rattle.pupcopper.proofs.pupcopper_hour.Goals as goal

pub settle-requires : goal.settle-requires
settle-requires c κs within = (search (lives, within.0, within.1.0, within.1.1.0) depth 12 fits 20000, search rules)
