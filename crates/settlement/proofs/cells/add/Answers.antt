-- Owner by owner.
use Rattle.std.proofs.Common.{◌≡◌, subst, arith}
use Rattle.numbers.specs.Limits.{owners}
use Rattle.settlement.proofs.Adding.{Added, none_added, one_more, room_here, all_added}
use Rattle.settlement.proofs.cells.add.Goals as goal

pub loop-owner-init : goal.loop-owner-init
loop-owner-init c = none_added c.args.shortfalls.now c.args.start c.args.unpaid.now

pub overflow_add-shortfalls-in-loop-owner : goal.overflow_add-shortfalls-in-loop-owner
overflow_add-shortfalls-in-loop-owner c =
    let room =
    room_here c.args.shortfalls.now c.args.start c.args.unpaid.now c.loop-owner.shortfalls c.loop-owner.owner _ (omega arith)
    (c.requires.room c.loop-owner.owner) c.loop-owner.invariant in
    omega (arith, room)

pub loop-owner-preserved : goal.loop-owner-preserved
loop-owner-preserved c =
    one_more c.args.shortfalls.now c.args.start c.args.unpaid.now c.requires.one_of_two c.loop-owner.shortfalls c.loop-owner.owner (omega arith)
    c.loop-owner.invariant

pub returns-clause-added : goal.returns-clause-added
returns-clause-added c =
    let e : c.loop-owner.owner ≡ owners = omega arith in
    (all_added c.args.shortfalls.now c.args.start c.args.unpaid.now c.loop-owner.shortfalls
    (subst (Added c.args.shortfalls.now c.args.start c.args.unpaid.now c.loop-owner.shortfalls) e c.loop-owner.invariant)).0

pub returns-clause-others_stay : goal.returns-clause-others_stay
returns-clause-others_stay c =
    let e : c.loop-owner.owner ≡ owners = omega arith in
    (all_added c.args.shortfalls.now c.args.start c.args.unpaid.now c.loop-owner.shortfalls
    (subst (Added c.args.shortfalls.now c.args.start c.args.unpaid.now c.loop-owner.shortfalls) e c.loop-owner.invariant)).1
