-- Refused by the hour or what is lent, by a fault of the rights, or the rows of a file without one.
use Rattle.std.proofs.Common.{sym, ap, ◌∙◌}
use Rattle.std.proofs.lemmas.Bool.{eqb-true, not-false}
use Rattle.std.proofs.lemmas.Result.{err_from_is_err_and}
use Rattle.numbers.specs.Lists.{list_below}
use Rattle.calendar.specs.declared.OperatingHour.{OperatingHour}
use Rattle.rights.specs.Layout.{record_count}
use Rattle.target.specs.Target.{call_answer, row_at}
use Rattle.target.specs.Rows.{rows}
use Rattle.numbers.proofs.Refusals.{answered_ok}
use Rattle.target.proofs.Answered.{answered_refusal}
use Rattle.target.proofs.Answer.{early_clear, refused_early, from_file}
use Rattle.target.proofs.RowSums.{keeps_row_lines, writes_rows}
use Rattle.target.proofs.right_rows.rows.Goals as goal

pub returns-in_err-hour-clause-value : goal.returns-in_err-hour-clause-value
returns-in_err-hour-clause-value c =
    let p = err_from_is_err_and c.from_residual.result c.from_residual.ensures.1 in
    rw (p.1, p.2) (refused_early _ _ _ _ _ _ _ (sym c.in_err-hour.ensures)).1

pub returns-in_err-hour-clause-lines_after : goal.returns-in_err-hour-clause-lines_after
returns-in_err-hour-clause-lines_after c =
    sym (keeps_row_lines _ _ _ _ _ (refused_early _ _ _ _ _ _ _ (sym c.in_err-hour.ensures)).0)

-- a record with a fault: the file's answer is the call's,
-- and the lines stay as they were
pub returns-in_err-file_fault-clause-value : goal.returns-in_err-file_fault-clause-value
returns-in_err-file_fault-clause-value c =
    let fault = c.from_residual-in_err-file_fault in
    let p = err_from_is_err_and fault.result fault.ensures.1 in
    rw (p.1, p.2)
    (c.in_err-file_fault.ensures
    ∙ ap (call_answer c.args.year c.args.rights.now c.args.prices.now) (from_file _ _ _ _ _ (answered_ok _ _ _ (sym c.in_ok-hour.ensures)).0))

pub returns-in_err-file_fault-clause-lines_after : goal.returns-in_err-file_fault-clause-lines_after
returns-in_err-file_fault-clause-lines_after c =
    let called = from_file _ _ _ _ _ (answered_ok _ _ _ (sym c.in_ok-hour.ensures)).0 in
    let refused = answered_refusal _ _ (tt {0}) (tt {0}) _ (sym c.in_err-file_fault.ensures) in
    sym (keeps_row_lines _ _ _ _ _ (λ none. refused.0 (called ∙ none)))

-- a file without a fault: what is lent to the pass is right,
-- and the rows that it writes are those of the call
pub write_rows-requires : goal.write_rows-requires
write_rows-requires c =
    let lent = early_clear _ _ _ _ _ (answered_ok _ _ _ (sym c.in_ok-hour.ensures)).0 in
    ((answered_ok _ _ _ (sym c.in_ok-file_fault.ensures)).0, lent.4, eqb-true _ _ (not-false _ lent.2))

pub returns-clause-value : goal.returns-clause-value
returns-clause-value c =
    let clear = (answered_ok _ _ _ (sym c.in_ok-file_fault.ensures)).0 in
    ap (call_answer c.args.year c.args.rights.now c.args.prices.now)
    (sym clear ∙ from_file _ _ _ _ _ (answered_ok _ _ _ (sym c.in_ok-hour.ensures)).0)

pub returns-clause-lines_after : goal.returns-clause-lines_after
unfolding rows
returns-clause-lines_after c =
    let a = c.args in
    let looked = answered_ok _ _ _ (sym c.in_ok-hour.ensures) in
    let clear = (answered_ok _ _ _ (sym c.in_ok-file_fault.ensures)).0 in
    c.write_rows.ensures
    ∙ ap (λ (hour : OperatingHour). list_below (row_at a.rights.now a.prices.now hour) (record_count a.rights.now)) looked.1
    ∙ sym (writes_rows _ _ _ _ _ (sym (from_file _ _ _ _ _ looked.0) ∙ clear))
