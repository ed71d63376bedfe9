-- What opening a book gives: the fresh book of the year, or where there is no such year a book all 0.
-- Assumes nothing.
use Prim.Native.Nat.{ℕ}
use mathlib.Core.Path.{◌≡◌, refl, ◌∙◌}
use mathlib.Core.Bool.{true, false}
use Rattle.numbers.proofs.Refusals.{refusal_here, refusal_next, refusal_none, answer_accepted, IsNumber, is_number}
use Rattle.calendar.specs.Almanac.{is_outside}
use Rattle.settlement.specs.Book.{fresh, year_refusal, opened}

module _ (year : ℕ) where
  pub opening_accepted : is_outside year ≡ false → year_refusal year ≡ 0
  unfolding year_refusal
  opening_accepted within = refusal_next 15 _ within ∙ refusal_none

  pub opening_refused : is_outside year ≡ true → year_refusal year ≡ 15
  unfolding year_refusal
  opening_refused outside = refusal_here 15 _ outside

  pub opened_fresh : is_outside year ≡ false → opened year ≡ fresh year
  unfolding opened
  opened_fresh within = answer_accepted (year_refusal year) (fresh year) (fresh 0) (opening_accepted within)

  -- its number is a refusal's
  pub opening_number : IsNumber (year_refusal year)
  unfolding year_refusal
  opening_number = is_number _ refl
