-- A book that is not spoiled, part by part.
-- Assumes nothing.
use Prim.Native.Nat.{◌≤◌, ◌<◌}
use mathlib.Core.Path.{◌≡◌, refl}
use mathlib.Core.Bool.{Bool, true, false, not, ◌&&◌}
use native.Mathlib.Omega.{arith}
use lib.Dec.{ltb, eqb}
use borrow.Author.Tests.{le-ltb, le-leb, ltb-true, eqb-true, eq-eqb}
use Rattle.numbers.specs.Limits.{most_cents}
use Rattle.calendar.specs.Almanac.{is_outside}
use Rattle.calendar.specs.Year.{hours_in_year, months_in_year, month_end}
use Rattle.settlement.specs.Book.{Book, all_shortfalls, fund_left, last_end, off_month, out_of_step, is_spoiled}
use Rattle.settlement.proofs.Balances.{Bounded, bounds_clear}

pub record Sane (book : Book) : Type 0 where
  pub in_range : is_outside book.year ≡ false
  pub hours_most : book.hours ≤ hours_in_year book.year
  pub months_most : book.months ≤ months_in_year
  pub after_last : book.months < months_in_year → last_end book.year book.months ≤ book.hours
  pub before_next : book.months < months_in_year → book.hours ≤ month_end book.year book.months
  pub full : book.months ≡ months_in_year → book.hours ≡ hours_in_year book.year
  pub ended_full : book.ended ≡ true → book.months ≡ months_in_year
  pub short_most : all_shortfalls book ≤ most_cents
  pub bounded : Bounded book

module _ (book : Book) (sane : Sane book) where
  on_month : off_month book.year book.hours book.months ≡ false
  on_month = by_test (ltb book.months months_in_year) refl
    where
      by_test : (test : Bool) → ltb book.months months_in_year ≡ test → off_month book.year book.hours book.months ≡ false
      by_test true e =
          rw
          (e, le-leb (last_end book.year book.months) book.hours (sane.after_last (ltb-true _ _ e)), le-leb book.hours (month_end book.year book.months) (sane.before_next (ltb-true _ _ e)))
      by_test false e = rw e

  whole_year : (eqb book.months months_in_year && not (eqb book.hours (hours_in_year book.year))) ≡ false
  whole_year = by_test (eqb book.months months_in_year) refl
    where
      by_test : (test : Bool) → eqb book.months months_in_year ≡ test
          → (eqb book.months months_in_year && not (eqb book.hours (hours_in_year book.year))) ≡ false
      by_test true e = rw (e, eq-eqb book.hours (hours_in_year book.year) (sane.full (eqb-true _ _ e)))
      by_test false e = rw e

  ended_whole : (book.ended && ltb book.months months_in_year) ≡ false
  ended_whole = by_test book.ended refl
    where
      by_test : (test : Bool) → book.ended ≡ test → (book.ended && ltb book.months months_in_year) ≡ false
      by_test true e = rw (e, le-ltb book.months months_in_year (omega (arith, sane.ended_full e)))
      by_test false e = rw e

  pub not_spoiled : is_spoiled book ≡ false
  unfolding is_spoiled out_of_step
  not_spoiled =
      rw
      (le-ltb (hours_in_year book.year) book.hours sane.hours_most, le-ltb months_in_year book.months sane.months_most, on_month, whole_year, ended_whole, le-ltb most_cents (all_shortfalls book) sane.short_most, bounds_clear book.hours book.monthbalance sane.bounded.month, bounds_clear book.hours book.yearbalance sane.bounded.year, bounds_clear book.hours (fund_left book) sane.bounded.both)
