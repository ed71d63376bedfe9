-- The letter, the three fields and the newline, one behind another.
use Rattle.std.proofs.Common.{ap, w64}
use Rattle.std.proofs.lemmas.Int.{to_z-of_z}
use Rattle.statement_text.specs.Text.{line_text, signed_field}
use Rattle.statement_text.proofs.Pieces.{put_then, put_as}
use Rattle.statement_text.proofs.Named.write_line.Goals as goal

pub returns-clause-put : goal.returns-clause-put
unfolding line_text
returns-clause-put c =
    let cents = put_as (ap signed_field (to_z-of_z w64 _ c.ranges.cents)) c.signed_field.ensures.put in
    put_then (put_then (put_then (put_then c.put.ensures c.field.ensures.put) c.field-2.ensures.put) cents) c.put-2.ensures
