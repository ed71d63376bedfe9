-- The search has come to the present record.
use Rattle.std.proofs.Common.{length, ◌-◌}
use Rattle.target.specs.InnerContracts.{Searched}
use Rattle.target.proofs.live_rights.note_live.Given as goal

abbrev pub invariant-loop-noted : goal.invariant-loop-noted
invariant-loop-noted l = Searched l.year l.rights l.fn.hour l.places l.noted

abbrev pub decreases-loop-noted : goal.decreases-loop-noted
decreases-loop-noted l = length l.rights - l.noted.end
