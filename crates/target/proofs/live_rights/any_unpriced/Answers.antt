-- The right cut from each record is the file's, so that one record more is one test more.
use Rattle.std.proofs.Common.{◌||◌, Bool, sym, ap, ap₂, ◌∙◌, arith}
use Rattle.numbers.proofs.Any.{any_none, any_next}
use Rattle.rights.proofs.RecordWords.{cut_right}
use Rattle.rights.specs.Faults.{is_unpriced}
use Rattle.target.proofs.live_rights.any_unpriced.Goals as goal

pub loop-record-init : goal.loop-record-init
loop-record-init c = sym (any_none _)

pub loop-record-preserved : goal.loop-record-preserved
loop-record-preserved c =
    ap₂ (λ (before here : Bool). before || here) c.loop-record.invariant
    (c.is_unpriced-unpriced.ensures ∙ ap (is_unpriced c.args.prices) (c.cut.ensures ∙ cut_right _ _ (omega arith) c.as_chunks.ensures.front c.from_le_bytes.ensures.fields))
    ∙ sym (any_next _ _)
