-- The text so far is that of the owners so far.
use Rattle.std.proofs.Common.{◌+◌, ◌*◌, ◌≤◌}
use Rattle.statement_text.specs.InnerContracts.{Put}
use Rattle.statement_text.specs.Text.{line_room}
use Rattle.statement_text.proofs.Lines.{owners_text}
use Rattle.statement_text.proofs.Named.write_lines.Given as goal

abbrev pub invariant-loop-owner : goal.invariant-loop-owner
invariant-loop-owner l = record {
  put : Put (owners_text l.self.tag l.self.number l.lines l.owner) l.initial.out l.out;
  short : l.out.end ≤ l.initial.out.end + l.owner * line_room;
}
