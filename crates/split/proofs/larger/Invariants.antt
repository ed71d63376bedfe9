-- What is counted so far are the remainders passed that are larger.
use Rattle.std.proofs.Common.{◌≡◌, ltb, get_or}
use Rattle.numbers.specs.Lists.{count_below}
use Rattle.split.proofs.larger.Given as goal

abbrev pub invariant-loop-other : goal.invariant-loop-other
invariant-loop-other l = l.larger ≡ count_below (λ k. ltb l.remainder (get_or l.remainders k 0)) l.other-index
