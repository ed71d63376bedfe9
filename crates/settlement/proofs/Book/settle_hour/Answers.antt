-- Refused by the rows of every event, by its input or by its size, or settled.
use Rattle.std.proofs.Common.{ℤ, w64, rules, sym, ap, ◌∙◌}
use Rattle.std.proofs.lemmas.Int.{to_z-of_z}
use Rattle.std.proofs.lemmas.Result.{err_from_is_err_and}
use Rattle.settlement.specs.ByOwner.{laid_out, read_off}
use Rattle.settlement.specs.Events.{hour_call, added_to, book_after_hour}
use Rattle.settlement.proofs.ByOwner.{read_long, refused_by_owner, accepted_by_owner}
use Rattle.settlement.proofs.Settling.{begun, carried, aimed, dealt, refused_early, refused_input, refused_size, may_share, payments_small, cells_fit, has_room, hour_after, settled_hour}
use Rattle.settlement.proofs.Book.settle_hour.Goals as goal

pub returns-in_err-carry : goal.returns-in_err-carry
returns-in_err-carry c =
    let p = err_from_is_err_and c.from_residual.result c.from_residual.ensures.1 in
    rw (p.1, p.2) (refused_by_owner _ _ _ _ _ (search rules) (refused_early _ _ _ _ _ c.of_event.ensures c.in_err-carry.was))

pub hour_targets-requires : goal.hour_targets-requires
hour_targets-requires c =
    let start = begun _ _ c.of_event.ensures c.in_ok-carry.was in
    (start.within, start.inside)

pub returns-in_err-targets : goal.returns-in_err-targets
returns-in_err-targets c =
    let p = err_from_is_err_and c.from_residual-in_err-targets.result c.from_residual-in_err-targets.ensures.1 in
    let start = begun _ _ c.of_event.ensures c.in_ok-carry.was in
    rw (p.1, p.2) (refused_by_owner _ _ _ _ _ (search rules) (refused_input _ _ _ _ _ start c.ranges.collected c.hour_targets.ensures c.in_err-targets.was))

pub share_out-requires : goal.share_out-requires
share_out-requires c =
    let start = begun _ _ c.of_event.ensures c.in_ok-carry.was in
    let carry = carried _ c.args.lines.now c.of_event.ensures c.in_ok-carry.was in
    may_share (aimed _ _ _ _ _ start c.ranges.collected c.hour_targets.ensures c.in_ok-targets.was) c.ranges.collected _ carry

pub returns-in_err-paid : goal.returns-in_err-paid
returns-in_err-paid c =
    let p = err_from_is_err_and c.from_residual-in_err-paid.result c.from_residual-in_err-paid.ensures.1 in
    let start = begun _ _ c.of_event.ensures c.in_ok-carry.was in
    let aim = aimed _ _ _ _ _ start c.ranges.collected c.hour_targets.ensures c.in_ok-targets.was in
    rw (p.1, p.2) (refused_by_owner _ _ _ _ _ (search rules) (refused_size aim c.ranges.collected _ (carried _ c.args.lines.now c.of_event.ensures c.in_ok-carry.was) (read_long c.args.self.now).month c.share_out.ensures c.in_err-paid.was))

pub of_hour-requires : goal.of_hour-requires
of_hour-requires c =
    let start = begun _ _ c.of_event.ensures c.in_ok-carry.was in
    let aim = aimed _ _ _ _ _ start c.ranges.collected c.hour_targets.ensures c.in_ok-targets.was in
    payments_small (dealt aim c.ranges.collected _ (carried _ c.args.lines.now c.of_event.ensures c.in_ok-carry.was) (read_long c.args.self.now).month c.share_out.ensures c.in_ok-paid.was)

pub copy_from_slice-requires : goal.copy_from_slice-requires
copy_from_slice-requires c =
    (begun _ _ c.of_event.ensures c.in_ok-carry.was).long ∙ sym (search rules)

pub after_hour-requires-clause-counted : goal.after_hour-requires-clause-counted
after_hour-requires-clause-counted c =
    let start = begun _ _ c.of_event.ensures c.in_ok-carry.was in
    let aim = aimed _ _ _ _ _ start c.ranges.collected c.hour_targets.ensures c.in_ok-targets.was in
    let room = has_room (dealt aim c.ranges.collected _ (carried _ c.args.lines.now c.of_event.ensures c.in_ok-carry.was) (read_long c.args.self.now).month c.share_out.ensures c.in_ok-paid.was) in
    (room.0, rw (to_z-of_z w64 c.in_ok-paid.paid.left (search rules)) room.1)

pub after_hour-requires-clause-room : goal.after_hour-requires-clause-room
after_hour-requires-clause-room c =
    let start = begun _ _ c.of_event.ensures c.in_ok-carry.was in
    let aim = aimed _ _ _ _ _ start c.ranges.collected c.hour_targets.ensures c.in_ok-targets.was in
    cells_fit (dealt aim c.ranges.collected _ (carried _ c.args.lines.now c.of_event.ensures c.in_ok-carry.was) (read_long c.args.self.now).month c.share_out.ensures c.in_ok-paid.was)

pub returns : goal.returns
returns c =
    let start = begun _ _ c.of_event.ensures c.in_ok-carry.was in
    let aim = aimed _ _ _ _ _ start c.ranges.collected c.hour_targets.ensures c.in_ok-targets.was in
    let kept = c.args.self.now in
    let deal = dealt aim c.ranges.collected _ (carried _ c.args.lines.now c.of_event.ensures c.in_ok-carry.was) (read_long kept).month c.share_out.ensures c.in_ok-paid.was in
    let call = hour_call c.args.rights.now c.args.prices.now c.args.collected in
    let month = added_to (read_off kept).monthshort c.in_ok-paid.paid.unpaid in
    accepted_by_owner call kept _ _ _
    (c.after_hour.ensures ∙ ap (λ (z : ℤ). laid_out (book_after_hour (read_off kept) month z)) (to_z-of_z w64 c.in_ok-paid.paid.left (search rules)) ∙ ap laid_out (hour_after deal))
    (settled_hour deal (c.copy_from_slice.ensures.after ∙ c.of_hour.ensures))
