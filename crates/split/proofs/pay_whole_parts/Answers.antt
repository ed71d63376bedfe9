use Rattle.std.proofs.Common.{arith}
use Rattle.std.proofs.lemmas.Grind.{common_steps}
use Rattle.split.proofs.Shares.{whole_parts}
use Rattle.split.proofs.pay_whole_parts.Goals as goal

pub loop-i-preserved : goal.loop-i-preserved
loop-i-preserved c = record {
  whole = λ k l. grind (arith, common_steps, whole_parts);
  remains = λ k l. grind (arith, common_steps, whole_parts);
  cents = grind (arith, whole_parts);
}
