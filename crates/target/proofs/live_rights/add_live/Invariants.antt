-- Each owner has the sum of its records' cents so far.
use Rattle.target.proofs.Pass.{Summed}
use Rattle.target.proofs.live_rights.add_live.Given as goal

abbrev pub invariant-loop-place : goal.invariant-loop-place
invariant-loop-place l = Summed l.rights l.prices l.places l.sums l.place-index
