-- The letter, the numbers and the newline, if there is room.
use Rattle.std.proofs.Common.{rules, arith, ap, pos, get_or, FitsSigned, w64}
use Rattle.std.proofs.lemmas.Int.{to_z-of_z}
use Rattle.std.proofs.lemmas.List.{take_all}
use Rattle.statement_text.specs.InnerContracts.{numbers_text}
use Rattle.std.specs.List.{flat_map}
use Rattle.statement_text.specs.Text.{signed_field, line_room}
use Rattle.statement_text.proofs.Lines.{put_number}
use Rattle.statement_text.proofs.Pieces.{put_nothing, put_then, put_as}
use Rattle.statement_text.proofs.Room.{with_room, without_room}
use Rattle.statement_text.proofs.write_numbers.Goals as goal

pub returns-then-not-has_room : goal.returns-then-not-has_room
returns-then-not-has_room c =
    let is = without_room line_room (numbers_text c.args.letter c.args.numbers.now) c.args.text.now c.args.at (search rules) in
    record { value = is.0; text_after = is.1 }

pub loop-number-init : goal.loop-number-init
loop-number-init c = record { put = put_nothing (omega arith); short = omega arith }

pub loop-number-preserved : goal.loop-number-preserved
loop-number-preserved c =
    let fits : FitsSigned w64 (get_or c.args.numbers.now c.loop-number.number-index (pos 0)) = search rules in
    record {
      put =
          put_number c.args.numbers.now _ c.loop-number.invariant.put c.signed_field.ensures.put (search rules) (to_z-of_z w64 _ fits);
      short = omega arith;
    }

pub returns : goal.returns
returns c =
    let all = put_as (ap (flat_map signed_field) (take_all _ _ (omega arith))) c.loop-number.invariant.put in
    let line = put_then (put_then c.put.ensures all) c.put-2.ensures in
    let is = with_room line_room _ _ _ _ _ (search rules) line.wrote in
    record { value = is.0; text_after = search (rules, line.same_buffer, is.1) }
