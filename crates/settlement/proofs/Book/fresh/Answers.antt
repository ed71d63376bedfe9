-- No shortfalls at all, laid out.
use Rattle.std.proofs.Common.{rules}
use Rattle.settlement.specs.Book.{fresh}
use Rattle.settlement.proofs.ByOwner.{none_laid}
use Rattle.settlement.proofs.Book.fresh.Goals as goal

pub returns : goal.returns
unfolding fresh
returns c = rw none_laid (search rules)
