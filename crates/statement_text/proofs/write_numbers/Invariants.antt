-- The fields so far are those of the numbers so far.
use Rattle.std.proofs.Common.{◌+◌, ◌*◌, ◌≤◌, take}
use Rattle.std.specs.List.{flat_map}
use Rattle.statement_text.specs.InnerContracts.{Put}
use Rattle.statement_text.specs.Text.{signed_field, field_room}
use Rattle.statement_text.proofs.write_numbers.Given as goal

abbrev pub invariant-loop-number : goal.invariant-loop-number
invariant-loop-number l = record {
  put : Put (flat_map signed_field (take l.number-index l.numbers)) l.initial.line l.line;
  short : l.line.end ≤ l.initial.line.end + l.number-index * field_room;
}
