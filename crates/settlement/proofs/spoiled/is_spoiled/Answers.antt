-- Hours in step are within the year, so that the bounds are in range; and balances within them come to a sum that is.
use Rattle.std.proofs.Common.{Bool, false, ℤ, ◌≡◌, w64, FitsSigned, rules, sym, ap₂, ◌+ℤ◌, ◌∙◌, arith}
use borrow.Author.Tests.{le-ltb}
use Rattle.std.proofs.lemmas.Int.{to_z-of_z}
use Rattle.numbers.specs.Limits.{most_cents}
use Rattle.settlement.specs.Book.{Book, out_of_step, is_out_of_bounds}
use Rattle.settlement.specs.ByOwner.{read_off}
use Rattle.settlement.proofs.Balances.{sum_fits}
use Rattle.settlement.proofs.NotSpoiled.{hours_few, too_many, by_both}
use Rattle.settlement.proofs.spoiled.is_spoiled.Goals as goal

-- two balances within the bounds of hours in step
fit : (book : Book) (one other : ℤ) {astray off other_off : Bool} → astray ≡ out_of_step book.year book.hours book.months book.ended
    → astray ≡ false → off ≡ is_out_of_bounds book.hours one → off ≡ false → other_off ≡ is_out_of_bounds book.hours other → other_off ≡ false
    → FitsSigned w64 (one +ℤ other)
fit book one other step in_step is clear other_is both =
    sum_fits book.hours one other (hours_few book.year book.hours book.months book.ended (sym step ∙ in_step)) (sym is ∙ clear)
    (sym other_is ∙ both)

pub returns-then-carry-gt-MOST_CENTS : goal.returns-then-carry-gt-MOST_CENTS
returns-then-carry-gt-MOST_CENTS c =
    too_many (read_off c.args.book.now) (sym c.is_out_of_step.ensures ∙ c.if-is_out_of_step.false) (omega arith)

pub is_out_of_bounds-requires : goal.is_out_of_bounds-requires
is_out_of_bounds-requires c = hours_few _ _ _ _ (sym c.is_out_of_step.ensures ∙ c.if-is_out_of_step.false)

pub is_out_of_bounds-requires-2 : goal.is_out_of_bounds-requires-2
is_out_of_bounds-requires-2 c = hours_few _ _ _ _ (sym c.is_out_of_step.ensures ∙ c.if-is_out_of_step.false)

pub is_out_of_bounds-requires-3 : goal.is_out_of_bounds-requires-3
is_out_of_bounds-requires-3 c = hours_few _ _ _ _ (sym c.is_out_of_step.ensures ∙ c.if-is_out_of_step.false)

pub overflow_add-book : goal.overflow_add-book
overflow_add-book c = fit (read_off c.args.book.now) _ _ c.is_out_of_step.ensures c.if-is_out_of_step.false c.is_out_of_bounds.ensures c.if-is_out_of_bounds.false c.is_out_of_bounds-2.ensures c.if-is_out_of_bounds-2.false

pub returns : goal.returns
returns c =
    let month = to_z-of_z w64 c.args.book.now.monthbalance (search rules) in
    let year = to_z-of_z w64 c.args.book.now.yearbalance (search rules) in
    let sum = fit (read_off c.args.book.now) _ _ c.is_out_of_step.ensures c.if-is_out_of_step.false c.is_out_of_bounds.ensures c.if-is_out_of_bounds.false c.is_out_of_bounds-2.ensures c.if-is_out_of_bounds-2.false in
    by_both (read_off c.args.book.now) month year (to_z-of_z w64 _ sum ∙ ap₂ (λ (a b : ℤ). a +ℤ b) month year)
    (sym c.is_out_of_step.ensures ∙ c.if-is_out_of_step.false) (le-ltb most_cents _ (omega arith))
    (sym c.is_out_of_bounds.ensures ∙ c.if-is_out_of_bounds.false) (sym c.is_out_of_bounds-2.ensures ∙ c.if-is_out_of_bounds-2.false)
    c.is_out_of_bounds-3.ensures
