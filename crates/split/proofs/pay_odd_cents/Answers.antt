use Rattle.std.proofs.Common.{arith}
use Rattle.std.proofs.lemmas.Grind.{common_steps}
use Rattle.split.specs.InnerContracts.{with_odd_cent}
use Rattle.split.proofs.Order.{place_raised, one_from_test}
use Rattle.split.proofs.pay_odd_cents.Goals as goal

pub loop-i-preserved : goal.loop-i-preserved
unfolding with_odd_cent
loop-i-preserved c =
    let place = place_raised c.args.remainders.now c.loop-i.remainders c.loop-i.i (omega arith) c.loop-i.invariant.raised c.loop-i.invariant.not_yet in
    record {
      raised = λ k l. grind (arith, common_steps);
      not_yet = λ k l. grind (arith, common_steps);
      given = λ k l. grind (arith, common_steps, one_from_test);
      as_before = λ k l. grind (arith, common_steps);
    }
