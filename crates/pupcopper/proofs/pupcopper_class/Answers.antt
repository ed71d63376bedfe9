-- The goal of a refused hour; the others are found by the laws of Class.
use Rattle.pupcopper.proofs.Class.{class_refused}
use Rattle.pupcopper.proofs.pupcopper_class.Goals as goal

pub returns-in-Err : goal.returns-in-Err
returns-in-Err c = class_refused c.args.year c.args.hour c.operating_hour.ensures c.in-Err.is
