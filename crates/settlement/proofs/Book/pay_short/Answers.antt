-- Refused by the rows of every event, or the month or the year is paid and closed.
use Rattle.std.proofs.Common.{ℕ, ℤ, List, w64, FitsSigned, to_z, of_z, ◌≡◌, rules, refl, sym, ap, ap₂, ◌∙◌, arith}
use Rattle.std.proofs.lemmas.Grind.{common_steps}
use Rattle.std.proofs.lemmas.Int.{to_z-of_z}
use Rattle.std.proofs.lemmas.Result.{err_from_is_err_and}
use Rattle.settlement.specs.declared.payment.Paid.{Paid}
use Rattle.settlement.specs.ByOwner.{laid_out, read_off}
use Rattle.settlement.specs.Ends.{end_call}
use Rattle.settlement.specs.Events.{wants, fund, demand, payment_lines, added_to, book_after_month, book_after_year, book_after}
use Rattle.settlement.specs.InnerContracts.{paid_from}
use Rattle.settlement.proofs.ByOwner.{read_long, refused_by_owner, accepted_by_owner}
use Rattle.settlement.proofs.Closing.{end_refusal, end_names, end_lines, passed, within, cells_fit, month_fits}
use Rattle.settlement.proofs.Paying.{paid_small}
use Rattle.settlement.proofs.Refusing.{refused_answer, accepted_answer}
use Rattle.settlement.proofs.Book.pay_short.Goals as goal
use Rattle.settlement.proofs.Book.pay_short.Goals.{in-Month, in-Year, in-Month-end, in-Year-end}

-- what the chosen fund pays of the chosen wants, where it is read back from its bits
paid_for : (chosen : ℤ × List ℕ) {given : ℤ × List ℕ} → FitsSigned w64 chosen.0 → chosen ≡ given
    → paid_from (to_z w64 (of_z w64 chosen.0)) chosen.1 ≡ paid_from given.0 given.1
paid_for chosen fits same =
    ap (λ (z : ℤ). paid_from z chosen.1) (to_z-of_z w64 chosen.0 fits) ∙ ap (λ (f : ℤ × List ℕ). paid_from f.0 f.1) same

pub returns-in_err-of_event : goal.returns-in_err-of_event
returns-in_err-of_event c =
    let p = err_from_is_err_and c.from_residual.result c.from_residual.ensures.1 in
    rw (p.1, p.2)
    (refused_by_owner (end_call c.args.end) c.args.self.now _ _ _ (search rules)
    (refused_answer (end_call c.args.end) (read_off c.args.self.now) c.args.lines.now _ 0 _ (sym c.of_event.ensures ∙ c.in_err-of_event.was)
    (end_refusal c.args.end _ _ c.into.ensures)
    (end_names c.args.end _ _)))

pub pay-paid-requires : goal.pay-paid-requires
pay-paid-requires c =
    let most = within (passed c.args.end _ _ c.into.ensures c.of_event.ensures c.in_ok-of_event.was) in
    grind (arith, common_steps, most)

pub of_payments-requires : goal.of_payments-requires
of_payments-requires c =
    let most = within (passed c.args.end _ _ c.into.ensures c.of_event.ensures c.in_ok-of_event.was) in
    paid_small _ _ c.pay-paid.ensures (grind (arith, common_steps, most))

pub copy_from_slice-requires : goal.copy_from_slice-requires
copy_from_slice-requires c =
    (passed c.args.end _ _ c.into.ensures c.of_event.ensures c.in_ok-of_event.was).lent ∙ sym (search rules)

pub after_month-requires-clause-room : goal.after_month-requires-clause-room
after_month-requires-clause-room c =
    let back = to_z-of_z w64 c.args.self.now.monthbalance (search rules) in
    cells_fit (passed c.args.end _ _ c.into.ensures c.of_event.ensures c.in_ok-of_event.was)
    (c.pay-paid.ensures ∙ paid_for c.match-end.fund (search rules) (grind (arith, common_steps, back))) (read_long c.args.self.now).month

pub after_month-requires-clause-counted : goal.after_month-requires-clause-counted
after_month-requires-clause-counted c =
    let back = to_z-of_z w64 c.args.self.now.monthbalance (search rules) in
    let fits =
    month_fits (passed c.args.end _ _ c.into.ensures c.of_event.ensures c.in_ok-of_event.was) {paid = c.pay-paid.result}
    (c.pay-paid.ensures ∙ paid_for c.match-end.fund (search rules) (grind (arith, common_steps, back))) in
    (fits.0, rw (to_z-of_z w64 c.pay-paid.result.left (search rules)) fits.1)

pub returns : goal.returns
unfolding fund demand wants book_after
returns c =
    let kept = c.args.self.now in
    let b = read_off kept in
    let call = end_call c.args.end in
    let pass = passed c.args.end _ _ c.into.ensures c.of_event.ensures c.in_ok-of_event.was in
    let taken : c.match-end.fund ≡ (fund call b, wants call b) =
    elim c.match-end.branch [
      | in-Month w ↦ rw w.in-Month.is (w.fund-is ∙ ap₂ (λ (z : ℤ) (ws : List ℕ). (z, ws)) (to_z-of_z w64 b.monthbalance (search rules)) w.cells_from.ensures)
      | in-Year w ↦ rw w.in-Year.is (w.fund-is ∙ ap₂ (λ (z : ℤ) (ws : List ℕ). (z, ws)) (to_z-of_z w64 b.yearbalance (search rules)) w.cells_from-in-Year.ensures)
    ] in
    let paid = c.pay-paid.ensures ∙ paid_for c.match-end.fund (search rules) taken in
    let left = to_z-of_z w64 c.pay-paid.result.left (search rules) ∙ ap (λ (x : Paid). x.left) paid in
    let unpaid = ap (λ (x : Paid). x.unpaid) paid in
    accepted_by_owner call kept _ _ _
    (elim c.match-end-2.branch [
      | in-Month-end w ↦ w.self-is ∙ w.after_month.ensures
          ∙ ap₂ (λ (us : List ℕ) (z : ℤ). laid_out (book_after_month b (added_to b.yearshort us) z)) unpaid left
          ∙ rw w.in-Month-end.is refl
      | in-Year-end w ↦ w.self-is ∙ w.after_year.ensures
          ∙ ap₂ (λ (us : List ℕ) (z : ℤ). laid_out (book_after_year b us z)) unpaid left ∙ rw w.in-Year-end.is refl
    ])
    (accepted_answer call b c.args.lines.now _ _ _ pass.accepted (ap (λ (x : Paid). x.funding) paid) refl
    (c.copy_from_slice.ensures.after ∙ c.of_payments.ensures ∙ ap (λ (x : Paid). payment_lines x.payments) paid ∙ end_lines c.args.end b))
