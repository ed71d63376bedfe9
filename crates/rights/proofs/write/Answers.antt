-- Each return has the row of the table that its tests lead to.
use Rattle.std.proofs.Common.{◌≡◌, ℕ, sym, ap, ap₂, ◌∙◌, arith}
use Rattle.numbers.specs.Lists.{written}
use Rattle.numbers.proofs.Written.{put_mid_written}
use Rattle.rights.specs.Layout.{is_good, laid_out, record_refusal}
use Rattle.rights.proofs.RecordCalls.{record_15, record_wrong, record_past, record_7, record_0}
use Rattle.rights.proofs.RecordWords.{laid_out_length}
use Rattle.rights.proofs.Writing.{write_answer, write_leaves}
use Rattle.rights.proofs.write.Goals as goal

outside : (c : goal.Then-is_outside) → record_refusal c.args.year c.args.file.now c.args.number c.args.right ≡ 15
outside c = record_15 _ _ _ _ (sym c.is_outside.ensures ∙ c.if-is_outside.true)

pub returns-then-is_outside-clause-value : goal.returns-then-is_outside-clause-value
returns-then-is_outside-clause-value c = write_answer _ _ _ _ (outside c)

pub returns-then-is_outside-clause-file_after : goal.returns-then-is_outside-clause-file_after
returns-then-is_outside-clause-file_after c = write_leaves _ _ _ _ (outside c)

wrong : (c : goal.Then-wrong_length) → record_refusal c.args.year c.args.file.now c.args.number c.args.right ≡ 4
wrong c =
    record_wrong _ _ _ _ (sym c.is_outside.ensures ∙ c.if-is_outside.false) (sym c.wrong_length.ensures ∙ c.if-wrong_length.true)

pub returns-then-wrong_length-clause-value : goal.returns-then-wrong_length-clause-value
returns-then-wrong_length-clause-value c = write_answer _ _ _ _ (wrong c)

pub returns-then-wrong_length-clause-file_after : goal.returns-then-wrong_length-clause-file_after
returns-then-wrong_length-clause-file_after c = write_leaves _ _ _ _ (wrong c)

past : (c : goal.Then-file-number) → record_refusal c.args.year c.args.file.now c.args.number c.args.right ≡ 4
past c =
    record_past _ _ _ _ (sym c.is_outside.ensures ∙ c.if-is_outside.false) (sym c.wrong_length.ensures ∙ c.if-wrong_length.false) (omega arith)

pub returns-then-file-number-clause-value : goal.returns-then-file-number-clause-value
returns-then-file-number-clause-value c = write_answer _ _ _ _ (past c)

pub returns-then-file-number-clause-file_after : goal.returns-then-file-number-clause-file_after
returns-then-file-number-clause-file_after c = write_leaves _ _ _ _ (past c)

bad : (c : goal.Then-not-is_good) → record_refusal c.args.year c.args.file.now c.args.number c.args.right ≡ 7
bad c =
    record_7 _ _ _ _ (sym c.is_outside.ensures ∙ c.if-is_outside.false) (sym c.wrong_length.ensures ∙ c.if-wrong_length.false) (omega arith)
    (sym (c.is_good.ensures ∙ ap₂ is_good (omega arith) c.from_right-words.ensures.fields) ∙ c.if-not-is_good.true)

pub returns-then-not-is_good-clause-value : goal.returns-then-not-is_good-clause-value
returns-then-not-is_good-clause-value c = write_answer _ _ _ _ (bad c)

pub returns-then-not-is_good-clause-file_after : goal.returns-then-not-is_good-clause-file_after
returns-then-not-is_good-clause-file_after c = write_leaves _ _ _ _ (bad c)

accepted : (c : goal.After-slice_known-2-1) → record_refusal c.args.year c.args.file.now c.args.number c.args.right ≡ 0
accepted c =
    record_0 _ _ _ _ (sym c.is_outside.ensures ∙ c.if-is_outside.false) (sym c.wrong_length.ensures ∙ c.if-wrong_length.false) (omega arith)
    (sym (c.is_good.ensures ∙ ap₂ is_good (omega arith) c.from_right-words.ensures.fields) ∙ c.if-not-is_good.false)

pub returns-clause-value : goal.returns-clause-value
returns-clause-value c = write_answer _ _ _ _ (accepted c)

pub returns-clause-file_after : goal.returns-clause-file_after
returns-clause-file_after c =
    put_mid_written _ _ _ _ _
    (c.copy_from_slice.ensures.after ∙ c.to_le_bytes.ensures ∙ c.from_right-words.ensures.bytes)
    (laid_out_length c.args.right ∙ omega arith)
    ∙ ap (λ (at : ℕ). written c.args.file.now at (laid_out c.args.right)) (omega arith)
    ∙ write_leaves _ _ _ _ (accepted c)
