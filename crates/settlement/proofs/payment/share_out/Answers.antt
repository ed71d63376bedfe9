-- Refused by the wants, the charges or the carry, or shared.
use Rattle.std.proofs.Common.{ℕ, ◌≤◌, ◌≡◌, false, List, ap, ◌∙◌, ℤ, ◌+ℤ◌, w64, FitsSigned, to_z, of_z, Ok, rules, arith}
use Rattle.std.proofs.lemmas.Int.{to_z-of_z}
use borrow.Author.Differences.{ints}
use Rattle.numbers.specs.Limits.{most_cents}
use Rattle.numbers.specs.Lists.{total}
use Rattle.settlement.specs.declared.payment.Paid.{Paid}
use Rattle.settlement.specs.Events.{hour_wants, hour_charges, hour_fund, is_wild_amount}
use Rattle.settlement.specs.InnerContracts.{paid_from}
use Rattle.settlement.proofs.Balances.{brought_back}
use Rattle.settlement.proofs.SharingOut.{wants_over, charges_over, carry_over, all_within, shared, spent, unpaid_total, paid_is, wants_length}
use Rattle.settlement.proofs.payment.share_out.Goals as goal

-- what is paid, its fund read back from its bits
shared_out : (collected : ℤ) (targets : List ℤ) (cast : ℤ) {wants : List ℕ} {charges : ℕ} {paid : Paid} → wants ≡ hour_wants targets
    → charges ≡ hour_charges targets → FitsSigned w64 collected → is_wild_amount collected ≡ false → charges ≤ most_cents
    → cast ≡ to_z w64 charges → paid ≡ paid_from (to_z w64 (of_z w64 (to_z w64 (of_z w64 collected) +ℤ to_z w64 (of_z w64 cast)))) wants
    → paid ≡ paid_from (hour_fund collected targets) (hour_wants targets)
shared_out collected targets cast {wants} {charges} w c fits calm few is p =
    paid_is collected targets w c (p ∙ ap (λ (z : ℤ). paid_from z wants) (brought_back collected charges fits calm few is))

pub returns-then-capped_total-cap : goal.returns-then-capped_total-cap
returns-then-capped_total-cap c =
    let wanted = ap total c.wants_of-wants.ensures in
    shared _ _ _ 9 (wants_over _ _ _ _ (omega arith))

pub returns-then-charges-cap : goal.returns-then-charges-cap
returns-then-charges-cap c =
    let wanted = ap total c.wants_of-wants.ensures in
    shared _ _ _ 9 (charges_over _ _ _ _ (omega arith) (omega arith))

pub unpaid_in_all-requires : goal.unpaid_in_all-requires
unpaid_in_all-requires c =
    let spent = spent _ _ (search rules) c.pay-paid.ensures (to_z-of_z w64 c.pay-paid.result.left (search rules)) in
    (spent.0, spent.1, omega (arith, ap (λ (x : Paid). x.funding.demand) c.pay-paid.ensures))

pub returns-then-carry-unpaid_in_all-gt-MOST_CENTS : goal.returns-then-carry-unpaid_in_all-gt-MOST_CENTS
returns-then-carry-unpaid_in_all-gt-MOST_CENTS c =
    let wanted = ap total c.wants_of-wants.ensures in
    let charges : c.charges_of-charges.result ≡ hour_charges c.args.targets.now = omega arith in
    let paid = shared_out c.args.collected c.args.targets.now c.cast_signed.result c.wants_of-wants.ensures charges c.ranges.collected c.requires.1 (omega arith) (omega (arith, ints)) c.pay-paid.ensures in
    let sum = unpaid_total _ _ (wants_length _) paid (to_z-of_z w64 c.pay-paid.result.left (search rules)) _ c.unpaid_in_all.ensures in
    shared _ _ _ 10 (carry_over _ _ _ _ (omega arith) (omega arith) (omega (arith, sum)))

pub returns : goal.returns
returns c =
    let wanted = ap total c.wants_of-wants.ensures in
    let charges : c.charges_of-charges.result ≡ hour_charges c.args.targets.now = omega arith in
    let paid = shared_out c.args.collected c.args.targets.now c.cast_signed.result c.wants_of-wants.ensures charges c.ranges.collected c.requires.1 (omega arith) (omega (arith, ints)) c.pay-paid.ensures in
    let sum = unpaid_total _ _ (wants_length _) paid (to_z-of_z w64 c.pay-paid.result.left (search rules)) _ c.unpaid_in_all.ensures in
    ap Ok paid ∙ shared _ _ _ 0 (all_within _ _ _ _ (omega arith) (omega arith) (omega (arith, sum)))
