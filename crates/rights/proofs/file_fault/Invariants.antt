-- No record before the present one is bad, and the first of them without a price is kept.
use Rattle.std.proofs.Common.{◌≡◌, false}
use Rattle.numbers.specs.Lists.{any_below}
use Rattle.numbers.proofs.Lowest.{FirstSoFar}
use Rattle.rights.specs.Faults.{fault_at}
use Rattle.rights.proofs.file_fault.Given as goal

abbrev pub invariant-loop-number : goal.invariant-loop-number
invariant-loop-number l = record {
  good : any_below (fault_at l.year l.prices l.file 7) l.number ≡ false;
  first : FirstSoFar (fault_at l.year l.prices l.file 8) l.number l.unpriced;
}
