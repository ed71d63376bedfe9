-- A blank and, below zero, a minus sign, and the digits behind them.
use Rattle.std.proofs.Common.{to_z, of_z, w64, ap, arith}
use Rattle.std.proofs.lemmas.Int.{to_z-of_z}
use Rattle.numbers.proofs.Signed.{fits_abs}
use Rattle.statement_text.specs.InnerContracts.{Put}
use Rattle.statement_text.specs.Text.{digits, signed_field}
use Rattle.statement_text.proofs.Lines.{put_below_zero, put_from_zero, signed_length}
use Rattle.statement_text.proofs.Pieces.{put_as}
use Rattle.statement_text.proofs.lent.Text.signed_field.Goals.{then-number-lt0, else-number-lt0}
use Rattle.statement_text.proofs.lent.Text.signed_field.Goals as goal

pub returns : goal.returns
returns c =
    let is = to_z-of_z w64 c.args.number c.ranges.number in
    let digits = put_as (ap digits c.unsigned_abs.ensures.value) c.digits.ensures in
    let all : Put (signed_field (to_z w64 (of_z w64 c.args.number))) c.args.self.now c.digits.new.self =
    elim c.if-number-lt0.branch [
      | then-number-lt0 w ↦ put_below_zero _ w.if-number-lt0.true w.put.ensures (rw w.self-is at digits)
      | else-number-lt0 w ↦ put_from_zero _ w.if-number-lt0.false w.put-else-number-lt0.ensures (rw w.self-is at digits)
    ] in
    let put = put_as (ap signed_field is) all in
    record { put = put; short = omega (arith, put.wrote.ends, signed_length c.args.number (fits_abs w64 _ c.ranges.number)) }
