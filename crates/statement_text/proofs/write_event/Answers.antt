-- An event's lines, if there is room.
use Rattle.std.proofs.Common.{rules, length, arith}
use Rattle.statement_text.specs.Text.{text_of, event_lines, event_room}
use Rattle.statement_text.proofs.Room.{with_room, without_room}
use Rattle.statement_text.proofs.write_event.Goals as goal

pub returns-then-not-has_room : goal.returns-then-not-has_room
returns-then-not-has_room c =
    let lines = c.args.lines.now in
    let is = without_room (event_room (length lines)) (text_of (event_lines c.args.tag c.args.number lines)) c.args.text.now c.args.at (search rules) in
    record { value = is.0; text_after = is.1; upper_bound = omega arith }

pub returns : goal.returns
returns c =
    let is = with_room (event_room (length c.args.lines.now)) _ _ _ _ _ (search rules) c.write_lines.ensures.put.wrote in
    record {
      value = is.0;
      text_after = search (rules, c.write_lines.ensures.put.same_buffer, is.1);
      upper_bound = omega arith;
    }
