-- Refused by the hour or what is lent, by a fault of the rights, or the sums of a pass that met none.
use Rattle.std.proofs.Common.{length, sym, ap, ◌∙◌}
use Rattle.std.proofs.lemmas.Bool.{eqb-true, not-false}
use Rattle.std.proofs.lemmas.Result.{err_from_is_err_and}
use Rattle.target.specs.Target.{call_answer}
use Rattle.numbers.proofs.Refusals.{answered_ok}
use Rattle.target.proofs.Answer.{early_clear, refused_early, from_file, faulty, clean, pass_targets, targets_long, keeps_lines, writes_targets}
use Rattle.target.proofs.targets.Goals as goal

pub returns-in_err-hour-clause-value : goal.returns-in_err-hour-clause-value
returns-in_err-hour-clause-value c =
    let p = err_from_is_err_and c.from_residual.result c.from_residual.ensures.1 in
    rw (p.1, p.2) (refused_early _ _ _ _ _ _ _ (sym c.in_err-hour.ensures)).1

pub returns-in_err-hour-clause-lines_after : goal.returns-in_err-hour-clause-lines_after
returns-in_err-hour-clause-lines_after c =
    sym (keeps_lines _ _ _ _ _ (refused_early _ _ _ _ _ _ _ (sym c.in_err-hour.ensures)).0)

pub add_rights-requires : goal.add_rights-requires
add_rights-requires c =
    let lent = early_clear _ _ _ _ _ (answered_ok _ _ _ (sym c.in_ok-hour.ensures)).0 in (lent.0, lent.3, lent.4)

-- a record with a fault: the file's answer is the call's,
-- and the lines stay as they were
pub returns-in_default-clause-value : goal.returns-in_default-clause-value
returns-in_default-clause-value c =
    c.file_fault.ensures
    ∙ ap (call_answer c.args.year c.args.rights.now c.args.prices.now) (from_file _ _ _ _ _ (answered_ok _ _ _ (sym c.in_ok-hour.ensures)).0)

pub returns-in_default-clause-lines_after : goal.returns-in_default-clause-lines_after
returns-in_default-clause-lines_after c =
    let looked = answered_ok _ _ _ (sym c.in_ok-hour.ensures) in
    sym (keeps_lines _ _ _ _ _ (faulty _ _ _ _ _ looked.0 _ (sym c.add_rights.ensures ∙ c.in_default.is)))

pub copy_from_slice-requires : goal.copy_from_slice-requires
copy_from_slice-requires c =
    let looked = answered_ok _ _ _ (sym c.in_ok-hour.ensures) in
    let lent = early_clear _ _ _ _ _ looked.0 in
    let pass = pass_targets _ _ _ _ _ _ (sym c.add_rights.ensures ∙ c.in-Some.is) looked.1 in
    eqb-true _ _ (not-false _ lent.2) ∙ sym (ap length pass ∙ targets_long _ _ _ _)

pub returns-clause-value : goal.returns-clause-value
returns-clause-value c =
    let looked = answered_ok _ _ _ (sym c.in_ok-hour.ensures) in
    let none = clean _ _ _ _ _ looked.0 _ _ (sym c.add_rights.ensures ∙ c.in-Some.is) in
    ap (call_answer c.args.year c.args.rights.now c.args.prices.now) (sym none)

pub returns-clause-lines_after : goal.returns-clause-lines_after
returns-clause-lines_after c =
    let looked = answered_ok _ _ _ (sym c.in_ok-hour.ensures) in
    let pass = pass_targets _ _ _ _ _ _ (sym c.add_rights.ensures ∙ c.in-Some.is) looked.1 in
    let none = clean _ _ _ _ _ looked.0 _ _ (sym c.add_rights.ensures ∙ c.in-Some.is) in
    c.copy_from_slice.ensures.after ∙ pass ∙ sym (writes_targets _ _ _ _ _ none)
