-- The digits that the library prints.
use Rattle.std.proofs.Common.{sym, ◌∙◌}
use Rattle.statement_text.proofs.Decimal.{printed_digits}
use Rattle.statement_text.proofs.Pieces.{put_as}
use Rattle.statement_text.proofs.lent.Text.large.Goals as goal

pub returns : goal.returns
returns c =
    put_as (c.as_bytes.ensures.value ∙ c.format.ensures.text ∙ sym (printed_digits c.args.number c.ranges.number.fits)) c.put.ensures
