-- Up to i the whole parts are paid and the remainders are kept, and the fund less what was paid is unpaid.
use Rattle.std.proofs.Common.{ℕ, get_or, ◌+◌, ◌<◌, ◌≡◌}
use Rattle.numbers.specs.Lists.{total, list_below}
use Rattle.split.specs.Split.{whole_part, remainder}
use Rattle.split.proofs.pay_whole_parts.Given as goal

abbrev pub invariant-loop-i : goal.invariant-loop-i
invariant-loop-i l = record {
  whole : (k : ℕ) → k < l.i → get_or l.payments k 0 ≡ whole_part l.fund l.wants k;
  remains : (k : ℕ) → k < l.i → get_or l.remainders k 0 ≡ remainder l.fund l.wants k;
  cents : l.unpaid + total (list_below (whole_part l.fund l.wants) l.i) ≡ l.fund;
}
