use Rattle.std.proofs.Common.{◌≡◌, ℤ, pos, get_or, length, FitsSigned, w64, sym, ap, arith, rules}
use Rattle.std.proofs.lemmas.Int.{to_z-of_z}
use Rattle.statement_text.specs.Text.{text_of, owner_lines, event_lines}
use Rattle.statement_text.proofs.Lines.{owners_text, owners_none, put_owner}
use Rattle.statement_text.proofs.Pieces.{put_nothing, put_as}
use Rattle.statement_text.proofs.Named.write_lines.Goals as goal

pub loop-owner-init : goal.loop-owner-init
loop-owner-init c =
    record { put = put_as (sym (owners_none c.args.self.tag c.args.self.number c.args.lines.now)) (put_nothing (omega arith)); short = omega arith }

pub loop-owner-preserved : goal.loop-owner-preserved
loop-owner-preserved c =
    let line = get_or c.args.lines.now c.loop-owner.owner (pos 0) in
    let fits : FitsSigned w64 line = search rules in
    let cents = ap (λ (z : ℤ). text_of (owner_lines c.args.self.tag c.args.self.number c.loop-owner.owner z)) (to_z-of_z w64 line fits) in
    record {
      put = put_owner _ _ _ _ c.loop-owner.invariant.put (put_as cents c.write_owner.ensures.put);
      short = omega arith;
    }

pub returns-clause-put : goal.returns-clause-put
unfolding event_lines
returns-clause-put c =
    let e : c.loop-owner.owner ≡ length c.args.lines.now = omega arith in
    put_as (ap (owners_text _ _ _) e) c.loop-owner.invariant.put
