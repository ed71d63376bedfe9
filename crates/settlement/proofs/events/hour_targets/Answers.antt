-- The amount's row stands between those of the target call.
use Rattle.std.proofs.Common.{w64, refl, ap, ◌∙◌}
use Rattle.std.proofs.lemmas.Int.{to_z-of_z}
use Rattle.std.proofs.lemmas.Result.{err_from_is_err_and}
use Rattle.settlement.specs.Events.{is_wild_amount}
use Rattle.settlement.proofs.HourTargets.{wild_answer, same_number, refused_targets, given_targets}
use Rattle.settlement.proofs.events.hour_targets.Goals as goal

pub returns-then-is_wild_amount-is_before_amount : goal.returns-then-is_wild_amount-is_before_amount
returns-then-is_wild_amount-is_before_amount c =
    wild_answer _ _ _ c.args.collected c.args.hour c.requires.0 c.requires.1 c.targets-outcome.ensures.value c.is_before_amount.ensures
    (c.is_wild_amount.ensures ∙ ap is_wild_amount (to_z-of_z w64 _ c.ranges.collected))
    c.if-is_wild_amount-is_before_amount.true

pub returns-in_err-outcome : goal.returns-in_err-outcome
returns-in_err-outcome c =
    let p = err_from_is_err_and c.from_residual.result c.from_residual.ensures.1 in
    let called = c.targets-outcome.ensures.value in
    let wild = c.is_wild_amount.ensures ∙ ap is_wild_amount (to_z-of_z w64 _ c.ranges.collected) in
    let same = same_number _ _ _ c.args.collected c.args.hour c.requires.0 c.requires.1 called c.is_before_amount.ensures wild c.if-is_wild_amount-is_before_amount.false in
    rw (p.1, p.2) (refused_targets _ _ _ c.args.collected c.args.hour c.requires.0 c.requires.1 called same c.in_err-outcome.was)

pub returns : goal.returns
returns c =
    let called = c.targets-outcome.ensures.value in
    let wild = c.is_wild_amount.ensures ∙ ap is_wild_amount (to_z-of_z w64 _ c.ranges.collected) in
    let same = same_number _ _ _ c.args.collected c.args.hour c.requires.0 c.requires.1 called c.is_before_amount.ensures wild c.if-is_wild_amount-is_before_amount.false in
    given_targets _ _ _ c.args.collected c.args.hour c.requires.0 c.requires.1 called same _ c.in_ok-outcome.was refl c.targets-outcome.ensures.lines_after
