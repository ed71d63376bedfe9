-- What is paid and what is left are the payout; the rest is put together.
use Rattle.std.proofs.Common.{w64, rules, ◌∙◌, arith}
use Rattle.std.proofs.lemmas.Int.{to_z-of_z}
use Rattle.settlement.proofs.Paying.{put_together}
use Rattle.settlement.proofs.Payouts.{payout_at_most}
use Rattle.settlement.proofs.payment.pay.Goals as goal

pub unpaid_of-unpaid-requires : goal.unpaid_of-unpaid-requires
unpaid_of-unpaid-requires c = λ i. rw c.pay_out-left.ensures.payments_after (payout_at_most _ _ i)

pub returns : goal.returns
returns c =
    put_together c.args.wants.now (to_z-of_z w64 _ c.ranges.fund) (omega arith) (to_z-of_z w64 _ (search rules) ∙ c.pay_out-left.ensures.value)
    c.pay_out-left.ensures.payments_after c.unpaid_of-unpaid.ensures
