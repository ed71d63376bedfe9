-- Up to i the remainders are raised and the payments have their odd cents, and from i on both are as they were.
use Rattle.std.proofs.Common.{ℕ, get_or, ◌+◌, ◌≡◌, ◌≤◌, ◌<◌}
use Rattle.split.specs.InnerContracts.{with_odd_cent}
use Rattle.split.proofs.pay_odd_cents.Given as goal

abbrev pub invariant-loop-i : goal.invariant-loop-i
invariant-loop-i l = record {
  raised : (k : ℕ) → k < l.i → get_or l.remainders k 0 ≡ get_or l.fn.remainders k 0 + 1;
  not_yet : (k : ℕ) → l.i ≤ k → get_or l.remainders k 0 ≡ get_or l.fn.remainders k 0;
  given : (k : ℕ) → k < l.i → get_or l.payments k 0 ≡ with_odd_cent l.fn.remainders l.unpaid l.fn.payments k;
  as_before : (k : ℕ) → l.i ≤ k → get_or l.payments k 0 ≡ get_or l.fn.payments k 0;
}
