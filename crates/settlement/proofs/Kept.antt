-- What ties a book to the entries that led to it. It holds of the fresh book and is kept by every call.
-- Assumes nothing.
use Prim.Native.Nat.{ℕ, ◌+◌, ◌<◌, zero-le}
use mathlib.Core.Path.{◌≡◌, refl, sym, ap, subst, ◌∙◌}
use mathlib.Core.Bool.{true, false, false≢true}
use mathlib.Core.Logic.{◌⊎◌}
use mathlib.Core.List.{List, [], ◌∷◌}
use native.Mathlib.Nat.{not-suc-le-zero}
use native.Mathlib.Omega.{arith}
use lib.ListN.{get_or-replicate}
use lib.IntN.{pos, ◌+ℤ◌, ◌-ℤ◌}
use lib.Signed.{◌≤ℤ◌}
use borrow.Author.Differences.{ints}
use Rattle.numbers.specs.Limits.{owners}
use Rattle.numbers.specs.Lists.{total}
use Rattle.calendar.specs.Almanac.{is_outside}
use Rattle.calendar.specs.Year.{months_in_year}
use Rattle.settlement.specs.Book.{Book, fresh, month_short, open_shortfall, is_short, fund_left}
use Rattle.settlement.specs.Ledger.{Entry, over, since, sum_over, sum_since, balance_over, balance_since, hour_count, month_end_count, year_end_count, positive_target, credit, hour_credit, charge, collection, of_all}
use Rattle.settlement.proofs.EntryParts.{Nothing, over_next, since_next, balance_next, balance_since_next, none_of_all}
use Rattle.settlement.proofs.Balances.{nothing_in_bounds}
use Rattle.settlement.proofs.Sane.{Sane}
use Rattle.settlement.proofs.Shares.{IsLong}

pub record Kept (year : ℕ) (past : List Entry) (book : Book) : Type 0 where
  pub same_year : book.year ≡ year
  pub long : IsLong book
  pub sane : Sane book
  pub hours : book.hours ≡ sum_over hour_count past
  pub months : book.months ≡ sum_over month_end_count past
  pub ended_after : book.ended ≡ true → 0 < sum_over year_end_count past
  pub ended_only : 0 < sum_over year_end_count past → book.ended ≡ true
  pub month_owner : (owner : ℕ) → owner < owners
      → month_short book owner + sum_since (hour_credit owner) past ≡ sum_since (positive_target year owner) past
  pub all_owner : (owner : ℕ) → owner < owners
      → open_shortfall book owner + sum_over (credit owner) past ≡ sum_over (positive_target year owner) past
  pub month_fund : book.monthbalance
      ≡ balance_since collection past +ℤ pos (sum_since (of_all charge) past) -ℤ pos (sum_since (of_all hour_credit) past)
  pub all_fund : fund_left book ≡ balance_over collection past +ℤ pos (sum_over (of_all charge) past) -ℤ pos (sum_over (of_all credit) past)
  pub empty_month : book.months ≡ months_in_year
      → ((owner : ℕ) → owner < owners → month_short book owner ≡ 0) × (book.monthbalance ≡ pos 0)
  pub year_done : book.ended ≡ true → (fund_left book ≤ℤ pos 0) ⊎ ((owner : ℕ) → owner < owners → is_short book owner ≡ false)

-- the fresh book, before any call
pub kept_fresh : (year : ℕ) → is_outside year ≡ false → Kept year [] (fresh year)
unfolding fresh over since total
kept_fresh year within =
    record {
      same_year = refl;
      long = record { month = refl; year = refl };
      sane =
          record {
            in_range = within;
            hours_most = zero-le;
            months_most = zero-le;
            after_last = λ _. zero-le;
            before_next = λ _. zero-le;
            full = λ e. absurd (omega arith);
            ended_full = λ e. absurd (false≢true e);
            short_most = zero-le;
            bounded = record { month = nothing_in_bounds 0; year = nothing_in_bounds 0; both = nothing_in_bounds 0 };
          };
      hours = refl;
      months = refl;
      ended_after = λ e. absurd (false≢true e);
      ended_only = λ l. absurd (not-suc-le-zero l);
      month_owner = λ owner inside. ap (◌+ 0) (get_or-replicate owners owner 0 0 inside);
      all_owner = λ owner inside. ap (λ (x : ℕ). x + x + 0) (get_or-replicate owners owner 0 0 inside);
      month_fund = refl;
      all_fund = refl;
      empty_month = λ e. absurd (omega arith);
      year_done = λ e. absurd (false≢true e);
    }

-- a refused call leaves the book, and adds nothing to what is read
module _ (year : ℕ) (past : List Entry) (entry : Entry) (book : Book) (kept : Kept year past book) (none : Nothing year past entry) where
  over_same : (part : List Entry → Entry → ℕ) → part past entry ≡ 0 → sum_over part past ≡ sum_over part (entry ∷ past)
  over_same part zero = omega (arith, over_next part entry past, zero)

  since_same : (part : List Entry → Entry → ℕ) → part past entry ≡ 0 → sum_since part past ≡ sum_since part (entry ∷ past)
  since_same part zero = omega (arith, since_next part entry past none.month, zero)

  pub kept_refused : Kept year (entry ∷ past) book
  kept_refused =
      record {
        same_year = kept.same_year;
        long = kept.long;
        sane = kept.sane;
        hours = kept.hours ∙ over_same hour_count none.hour;
        months = kept.months ∙ over_same month_end_count none.month;
        ended_after = λ e. subst (λ (n : ℕ). 0 < n) (over_same year_end_count none.year_end) (kept.ended_after e);
        ended_only = λ l. kept.ended_only (subst (λ (n : ℕ). 0 < n) (sym (over_same year_end_count none.year_end)) l);
        month_owner =
            λ owner inside.
            omega
            (arith, kept.month_owner owner inside, since_same (hour_credit owner) (none.hour_credits owner), since_same (positive_target year owner) (none.target owner));
        all_owner =
            λ owner inside.
            omega
            (arith, kept.all_owner owner inside, over_same (credit owner) (none.credits owner), over_same (positive_target year owner) (none.target owner));
        month_fund =
            omega
            (arith, ints, kept.month_fund, since_same (of_all hour_credit) (none_of_all hour_credit past entry (λ o _. none.hour_credits o)), balance_since_next collection entry past none.month, none.collected, since_same (of_all charge) (none_of_all charge past entry (λ o _. none.charges o)));
        all_fund =
            omega
            (arith, ints, kept.all_fund, over_same (of_all credit) (none_of_all credit past entry (λ o _. none.credits o)), balance_next collection entry past, none.collected, over_same (of_all charge) (none_of_all charge past entry (λ o _. none.charges o)));
        empty_month = kept.empty_month;
        year_done = kept.year_done;
      }
