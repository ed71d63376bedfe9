-- The month cells with what is unpaid, the year cells as they are.
use Rattle.std.proofs.Common.{rules}
use Rattle.settlement.proofs.ByOwner.{laid_as}
use Rattle.settlement.proofs.Book.after_hour.Goals as goal

pub returns : goal.returns
returns c = rw (laid_as c.add.new.shortfalls (search rules) c.add.ensures.added c.add.ensures.others_stay) (search rules)
