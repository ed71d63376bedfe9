-- What is so of a book that is not spoiled.
-- Assumes nothing.
use Prim.Native.Nat.{ℕ, ◌≤◌, ◌<◌}
use mathlib.Core.Path.{◌≡◌, refl, sym, ap, ◌∙◌}
use mathlib.Core.Bool.{Bool, true, false, not, ◌&&◌, ◌||◌}
use native.Mathlib.Omega.{arith}
use lib.Dec.{leb, ltb, eqb}
use lib.IntN.{ℤ}
use borrow.Author.Tests.{ltb-false, lt-ltb}
use Rattle.numbers.specs.Limits.{most_cents}
use Rattle.numbers.proofs.Booleans.{neither_true}
use Rattle.calendar.specs.Year.{hours_in_year, months_in_year, month_end}
use Rattle.settlement.specs.Book.{Book, last_end, all_shortfalls, fund_left, out_of_step, is_out_of_bounds, is_spoiled}
use Rattle.calendar.proofs.AlmanacLaws.{most_hours, hours_most}
use Rattle.settlement.proofs.Balances.{Bounded, in_bounds}

-- hours and months in step are within the year
module _ (year hours months : ℕ) (ended : Bool) (clear : out_of_step year hours months ended ≡ false) where
  within : (ltb (hours_in_year year) hours || ltb months_in_year months) ≡ false
  unfolding out_of_step
  within =
      let off_month = ltb months months_in_year && not (leb (last_end year months) hours && leb hours (month_end year months)) in
      let short = eqb months months_in_year && not (eqb hours (hours_in_year year)) in
      let past = ltb (hours_in_year year) hours || ltb months_in_year months in
      (neither_true past off_month (neither_true (past || off_month) short (neither_true (past || off_month || short) _ clear).0).0).0

  pub hours_within : hours ≤ hours_in_year year
  hours_within = ltb-false (hours_in_year year) hours (neither_true (ltb (hours_in_year year) hours) (ltb months_in_year months) within).0

  pub hours_few : hours ≤ most_hours
  hours_few = omega (arith, hours_most year, hours_within)

  pub months_within : months ≤ months_in_year
  months_within = ltb-false months_in_year months (neither_true (ltb (hours_in_year year) hours) (ltb months_in_year months) within).1

module _ (book : Book) where
  abbrev is_astray : Bool
  is_astray = out_of_step book.year book.hours book.months book.ended

  abbrev is_over : Bool
  is_over = ltb most_cents (all_shortfalls book)

  abbrev is_off : ℤ → Bool
  is_off balance = is_out_of_bounds book.hours balance

  -- a book that is not spoiled
  module _ (sound : is_spoiled book ≡ false) where
    clauses : (is_astray || is_over || is_off book.monthbalance || is_off book.yearbalance || is_off (fund_left book)) ≡ false
    unfolding is_spoiled
    clauses = sound

    -- but for the two balances together, and but for each
    each_clear : ((is_astray || is_over || is_off book.monthbalance || is_off book.yearbalance) ≡ false) × (is_off (fund_left book) ≡ false)
    each_clear = neither_true (is_astray || is_over || is_off book.monthbalance || is_off book.yearbalance) (is_off (fund_left book)) clauses

    month_clear : ((is_astray || is_over || is_off book.monthbalance) ≡ false) × (is_off book.yearbalance ≡ false)
    month_clear = neither_true (is_astray || is_over || is_off book.monthbalance) (is_off book.yearbalance) each_clear.0

    early_clear : ((is_astray || is_over) ≡ false) × (is_off book.monthbalance ≡ false)
    early_clear = neither_true (is_astray || is_over) (is_off book.monthbalance) month_clear.0

    pub in_step : is_astray ≡ false
    in_step = (neither_true is_astray is_over early_clear.0).0

    pub shortfalls_within : all_shortfalls book ≤ most_cents
    shortfalls_within = ltb-false most_cents (all_shortfalls book) (neither_true is_astray is_over early_clear.0).1

    pub balances_within : Bounded book
    balances_within =
        record {
          month = in_bounds book.hours book.monthbalance early_clear.1;
          year = in_bounds book.hours book.yearbalance month_clear.1;
          both = in_bounds book.hours (fund_left book) each_clear.1;
        }

    pub few_hours : book.hours ≤ most_hours
    few_hours = hours_few book.year book.hours book.months book.ended in_step

  -- too many shortfalls
  pub too_many : is_astray ≡ false → most_cents < all_shortfalls book → true ≡ is_spoiled book
  unfolding is_spoiled
  too_many astray over = rw (astray, lt-ltb most_cents (all_shortfalls book) over) refl

  -- where nothing but the two balances together is left to be looked at, they decide; from the parts that the code has worked out
  pub by_both : {month year both : ℤ} {off : Bool} → month ≡ book.monthbalance → year ≡ book.yearbalance → both ≡ fund_left book
      → is_astray ≡ false → is_over ≡ false → is_off month ≡ false → is_off year ≡ false → off ≡ is_off both → off ≡ is_spoiled book
  unfolding is_spoiled
  by_both m y b astray over month_clear year_clear is =
      is ∙ ap is_off b ∙ rw (astray, over, ap is_off (sym m) ∙ month_clear, ap is_off (sym y) ∙ year_clear) refl
