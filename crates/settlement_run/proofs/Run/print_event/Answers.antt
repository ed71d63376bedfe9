-- The lines of an accepted event, or the refusal.
use Rattle.std.proofs.Common.{refl, arith}
use Rattle.settlement.specs.ByOwner.{read_off}
use Rattle.settlement_run.specs.InnerContracts.{refused_part}
use Rattle.settlement_run.proofs.Appending.{wrote_with_room, appended_told, appended_nothing}
use Rattle.settlement_run.proofs.Run.print_event.Goals as goal

pub returns-in-Ok : goal.returns-in-Ok
returns-in-Ok c =
    let run = c.args.self.now in
    let wrote = c.write_event-self.ensures in
    rw (c.in-Ok.is, ← c.tag_of.ensures)
    (appended_told _ run refl (wrote_with_room _ _ _ _ _ _ (omega arith) wrote.value wrote.text_after) (omega arith) c.go_on.ensures)

pub returns-in-Err : goal.returns-in-Err
returns-in-Err c =
    let s = c.args in
    let run = s.self.now in
    rw c.in-Err.is (appended_nothing (refused_part s.event s.number (read_off run.book) c.in-Err.refusal) run s.text.now refl refl c.stop.ensures)
