-- A fund of at least 0 is split, and the split is never refused here; what it then promises is the one theorem on accepted calls.
use Rattle.std.proofs.Common.{ℕ, pos, nat_abs, ◌≡◌, w64, rules, refl, sym, ap, length, replicate, ◌∙◌, arith}
use Rattle.std.proofs.lemmas.Int.{ints, to_z-of_z, to_z_pos}
use Rattle.numbers.specs.Limits.{owners}
use Rattle.split.specs.Split.{payments, left, split_refusal}
use Rattle.split.proofs.Answers.{leaves, accepted_call}
use Rattle.settlement.specs.Events.{hall, Payout}
use Rattle.settlement.proofs.Paying.{not_refused}
use Rattle.settlement.proofs.Payouts.{payout_none, payout_split}
use Rattle.settlement.proofs.payment.pay_out.Goals as goal

pub unwrap-requires : goal.unwrap-requires
unwrap-requires c =
    let long : length c.args.payments.now ≡ owners = search rules in
    let taken = ap (split_refusal hall c.args.wants.now) long ∙ not_refused c.args.wants.now (search rules) c.requires.within in
    rw (c.split.ensures.value ∙ leaves hall _ _ _ taken) refl

pub returns-then-fund-lt0-clause-value : goal.returns-then-fund-lt0-clause-value
returns-then-fund-lt0-clause-value c =
    let back = to_z-of_z w64 c.args.fund c.ranges.fund in
    back ∙ sym (ap (λ (p : Payout). p.left) (payout_none c.args.fund c.args.wants.now (omega (arith, ints))))

pub returns-then-fund-lt0-clause-payments_after : goal.returns-then-fund-lt0-clause-payments_after
returns-then-fund-lt0-clause-payments_after c =
    let long : length c.args.wants.now ≡ 64 = search rules in
    c.requires.none_yet
    ∙ ap (λ (n : ℕ). replicate n 0) (sym long)
    ∙ sym (ap (λ (p : Payout). p.payments) (payout_none c.args.fund c.args.wants.now (omega (arith, ints))))

pub returns-clause-value : goal.returns-clause-value
returns-clause-value c =
    let shared = accepted_call hall _ _ _ c.split.ensures.value c.split.ensures.payments_after c.unwrap.ensures in
    let amount = c.unsigned_abs.ensures.value ∙ ap nat_abs (to_z-of_z w64 c.args.fund c.ranges.fund) in
    to_z-of_z w64 _ (search rules)
    ∙ c.cast_signed.ensures
    ∙ to_z_pos w64 _ (omega (arith, ints, shared.closes, amount))
    ∙ ap pos (shared.gives ∙ ap (λ (n : ℕ). left n c.args.wants.now) amount)
    ∙ sym (ap (λ (p : Payout). p.left) (payout_split c.args.fund c.args.wants.now (omega (arith, ints))))

pub returns-clause-payments_after : goal.returns-clause-payments_after
returns-clause-payments_after c =
    let shared = accepted_call hall _ _ _ c.split.ensures.value c.split.ensures.payments_after c.unwrap.ensures in
    let amount = c.unsigned_abs.ensures.value ∙ ap nat_abs (to_z-of_z w64 c.args.fund c.ranges.fund) in
    shared.pays
    ∙ ap (λ (n : ℕ). payments n c.args.wants.now) amount
    ∙ sym (ap (λ (p : Payout). p.payments) (payout_split c.args.fund c.args.wants.now (omega (arith, ints))))
