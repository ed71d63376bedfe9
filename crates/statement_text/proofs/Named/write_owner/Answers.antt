-- Nothing for a zero line.
use Rattle.std.proofs.Common.{ℤ, to_z, of_z, w64, sym, ap, ◌∙◌, arith}
use Rattle.std.proofs.lemmas.Int.{to_z-of_z}
use Rattle.statement_text.specs.Text.{owner_line, line_text}
use Rattle.statement_text.proofs.Lines.{owner_zero, owner_line_lem}
use Rattle.statement_text.proofs.Pieces.{put_nothing, put_as}
use Rattle.statement_text.proofs.Named.write_owner.Goals as goal

pub returns-then-cents-ne0-clause-put : goal.returns-then-cents-ne0-clause-put
returns-then-cents-ne0-clause-put c =
    put_as
    (ap (λ (z : ℤ). line_text (owner_line c.args.self.tag c.args.self.number c.args.owner z)) (to_z-of_z w64 c.args.cents c.ranges.cents)
    ∙ sym (owner_line_lem _ _ _ _ (λ e. c.if-cents-ne0.true (ap (of_z w64) e))))
    c.write_line.ensures.put

pub returns-else-cents-ne0-clause-put : goal.returns-else-cents-ne0-clause-put
returns-else-cents-ne0-clause-put c =
    put_as
    (sym (owner_zero _ _ _ _ (sym (to_z-of_z w64 c.args.cents c.ranges.cents) ∙ ap (to_z w64) c.if-cents-ne0.false)))
    (put_nothing (omega arith))
