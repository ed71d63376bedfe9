-- Whether a record before the present one has a node without a price.
use Rattle.std.proofs.Common.{◌≡◌}
use Rattle.numbers.specs.Lists.{any_below}
use Rattle.rights.specs.Layout.{right_at}
use Rattle.rights.specs.Faults.{is_unpriced}
use Rattle.target.proofs.live_rights.any_unpriced.Given as goal

abbrev pub invariant-loop-record : goal.invariant-loop-record
invariant-loop-record l = l.unpriced ≡ any_below (λ number. is_unpriced l.prices (right_at l.rights number)) l.record-index
