use Rattle.std.proofs.Common.{◌≡◌, ℕ, ◌≤◌, List, length, drop, ap, arith}
use Rattle.std.proofs.Math.ListN.{drop_of_length-le}
use Rattle.numbers.specs.Lists.{total}
use Rattle.numbers.proofs.Counts.{total_drop}
use Rattle.numbers.proofs.sums.capped_total.Goals as goal

-- nothing is left at the end
none_left : (amounts : List ℕ) (i : ℕ) → length amounts ≤ i → total (drop i amounts) ≡ 0
unfolding total
none_left amounts i l = ap total (drop_of_length-le amounts l)

pub loop-amount-preserved : goal.loop-amount-preserved
loop-amount-preserved c =
    let more = total_drop c.args.amounts.now c.loop-amount.amount-index (omega arith) in
    record { within = omega arith; small = omega arith; comes_to = omega arith }

pub returns : goal.returns
returns c = let none = none_left c.args.amounts.now c.loop-amount.amount-index (omega arith) in omega arith
