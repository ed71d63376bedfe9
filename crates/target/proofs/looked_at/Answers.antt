-- The calendar answers by the table's first row; each return after it is one of the others.
use Rattle.std.proofs.Common.{◌≡◌, ℕ, ◌||◌, Bool, length, sym, ap, ap₂, ◌∙◌}
use Rattle.std.proofs.lemmas.Result.{err_from_is_err_and}
use Rattle.numbers.specs.Refusals.{answered}
use Rattle.calendar.specs.Year.{operating_hour}
use Rattle.rights.specs.Layout.{is_wrong_length}
use Rattle.target.specs.Target.{is_wrong_price_count}
use Rattle.target.proofs.Answer.{in_year, early_hour, early_length, early_wild, early_none}
use Rattle.numbers.proofs.Refusals.{answered_ok}
use Rattle.target.proofs.looked_at.Goals as goal

-- the three tests of a length,
-- by what each call gave
tests : (wrong : Bool) (prices file : ℕ) {by_prices by_file is : Bool} → by_prices ≡ is_wrong_price_count prices
    → by_file ≡ is_wrong_length file → ((wrong || by_prices) || by_file) ≡ is
    → ((wrong || is_wrong_price_count prices) || is_wrong_length file) ≡ is
tests wrong prices file p f e = ap₂ (λ (a b : Bool). (wrong || a) || b) (sym p) (sym f) ∙ e

pub returns-in_err-hour : goal.returns-in_err-hour
returns-in_err-hour c =
    let p = err_from_is_err_and c.from_residual.result c.from_residual.ensures.1 in
    rw (p.1, p.2) (early_hour _ _ _ _ _ _ (sym c.in_err-hour.ensures))

pub returns-then-wrong-wrong_price_count : goal.returns-then-wrong-wrong_price_count
returns-then-wrong-wrong_price_count c =
    ap (λ (k : ℕ). answered k 0 (operating_hour c.args.year c.args.hour))
    (sym
    (early_length _ _ _ _ _ (in_year _ _ _ (sym c.in_ok-hour.ensures))
    (tests _ (length c.args.prices.now) (length c.args.rights.now) c.wrong_price_count.ensures c.wrong_length.ensures c.if-wrong-wrong_price_count.true)))

pub returns-then-any_wild : goal.returns-then-any_wild
returns-then-any_wild c =
    ap (λ (k : ℕ). answered k 0 (operating_hour c.args.year c.args.hour))
    (sym
    (early_wild _ _ _ _ _ (in_year _ _ _ (sym c.in_ok-hour.ensures))
    (tests _ (length c.args.prices.now) (length c.args.rights.now) c.wrong_price_count.ensures c.wrong_length.ensures c.if-wrong-wrong_price_count.false)
    (sym c.any_wild.ensures ∙ c.if-any_wild.true)))

pub returns : goal.returns
returns c =
    c.in_ok-hour.ensures
    ∙ ap (λ (k : ℕ). answered k 0 (operating_hour c.args.year c.args.hour))
    ((answered_ok _ _ _ (sym c.in_ok-hour.ensures)).0
    ∙ sym
    (early_none _ _ _ _ _ (in_year _ _ _ (sym c.in_ok-hour.ensures))
    (tests _ (length c.args.prices.now) (length c.args.rights.now) c.wrong_price_count.ensures c.wrong_length.ensures c.if-wrong-wrong_price_count.false)
    (sym c.any_wild.ensures ∙ c.if-any_wild.false)))
