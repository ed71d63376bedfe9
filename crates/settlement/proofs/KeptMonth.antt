-- An accepted month end keeps the tie between the book and its entries.
-- Assumes nothing.
use Prim.Native.Nat.{ℕ, ◌+◌, ◌≤◌, ◌<◌}
use mathlib.Core.Path.{◌≡◌, refl, sym, ap, subst, ◌∙◌}
use mathlib.Core.Bool.{true, false, true≢false}
use mathlib.Core.List.{List, ◌∷◌}
use native.Mathlib.Nat.{le_of_eq}
use native.Mathlib.Numerals.{add-one}
use native.Mathlib.Omega.{arith}
use lib.Dec.{ltb, eqb}
use lib.ListN.{get_or, replicate, get_or-replicate, length-replicate}
use lib.IntN.{ℤ, pos, ◌+ℤ◌}
use borrow.Author.Differences.{ints}
use borrow.Author.Tests.{ltb-true, eqb-true}
use Rattle.numbers.specs.Limits.{owners}
use Rattle.numbers.specs.Lists.{total, list_below}
use Rattle.numbers.proofs.Counts.{length_list_below}
use Rattle.numbers.proofs.Booleans.{both_true}
use Rattle.calendar.specs.Year.{months_in_year, month_end, is_month_end}
use Rattle.calendar.proofs.MonthEnds.{months_rise, last_month}
use Rattle.settlement.specs.Book.{Book, month_short, year_short}
use Rattle.settlement.specs.Events.{Settled, month_end_call, wants, fund, paid, left_over, unpaid_of, added_to, book_after}
use Rattle.settlement.specs.Ledger.{Entry, book_at, hour_count, month_end_count, year_end_count, positive_target, credit, hour_credit, charge, collection, of_all}
use Rattle.settlement.proofs.Paying.{unpaid_small, added_total}
use Rattle.settlement.proofs.Shares.{paid_to, unpaid, wants_long, added_at, unpaid_paid, paid_closes, left_is}
use Rattle.settlement.proofs.Balances.{InBounds, Bounded, nothing_in_bounds, left_in_bounds}
use Rattle.settlement.proofs.Sane.{Sane}
use Rattle.settlement.proofs.EntryParts.{Parts, over_next, since_closed, balance_next, balance_since_closed, none_of_all}
use Rattle.settlement.proofs.Kept.{Kept}

module _ (year : ℕ) (past : List Entry) (lent : List ℤ) (result : Settled) (written : List ℤ) where
  abbrev pub month_entry : Entry
  month_entry = record { call = month_end_call; lent = lent; result = result; written = written }

  module _ (kept : Kept year past (book_at year past)) (parts : Parts year past month_entry) (still_Open : (book_at year past).ended ≡ false)
      (due : is_month_end (book_at year past).year (book_at year past).hours (book_at year past).months ≡ true) where
    abbrev book : Book
    book = book_at year past

    due_parts : (book.months < months_in_year) × (book.hours ≡ month_end book.year book.months)
    due_parts =
        let both = both_true (ltb book.months months_in_year) (eqb book.hours (month_end book.year book.months)) due in
        (ltb-true book.months months_in_year both.0, eqb-true book.hours (month_end book.year book.months) both.1)

    unpaid_total : total (unpaid month_end_call book) ≤ total book.monthshort
    unfolding wants
    unpaid_total = unpaid_small book.monthshort (paid month_end_call book) kept.long.month

    year_total : total (added_to book.yearshort (unpaid month_end_call book)) ≡ total book.yearshort + total (unpaid month_end_call book)
    unfolding unpaid_of
    year_total = added_total book.yearshort (unpaid month_end_call book) kept.long.year (length_list_below _ owners)

    no_cells : total (replicate owners 0) ≡ 0
    unfolding total
    no_cells = refl

    -- the month's balance is paid out, and what is left goes to the year's
    balances_after : Bounded (book_after month_end_call book)
    unfolding book_after fund
    balances_after =
        let year =
        left_in_bounds book.hours book.yearbalance book.monthbalance (left_over month_end_call book) kept.sane.bounded.year
        (subst (InBounds book.hours) (omega (arith, ints)) kept.sane.bounded.both) (left_is month_end_call book) in
        record {
          month = nothing_in_bounds book.hours;
          year = year;
          both = subst (InBounds book.hours) (omega (arith, ints)) year;
        }

    sane_after : Sane (book_after month_end_call book)
    unfolding book_after fund
    sane_after =
        record {
          in_range = kept.sane.in_range;
          hours_most = kept.sane.hours_most;
          months_most = omega (arith, due_parts.0);
          after_last = λ _. rw (add-one book.months) (le_of_eq (sym due_parts.1));
          before_next =
              λ more. omega (arith, due_parts.1, months_rise book.year book.months more);
          full = λ e. due_parts.1 ∙ ap (month_end book.year) (eleven e) ∙ last_month book.year;
          ended_full = λ e. absurd (true≢false (sym e ∙ still_Open));
          short_most = omega (arith, no_cells, year_total, unpaid_total, kept.sane.short_most);
          bounded = balances_after;
        }
      where
        eleven : book.months + 1 ≡ months_in_year → book.months ≡ 11
        eleven e = omega arith

    month_after : (owner : ℕ) → owner < owners → month_short (book_after month_end_call book) owner ≡ 0
    unfolding book_after
    month_after owner inside = get_or-replicate owners owner 0 0 inside

    year_after : (owner : ℕ) → owner < owners
        → year_short (book_after month_end_call book) owner ≡ year_short book owner + get_or (unpaid month_end_call book) owner 0
    unfolding book_after
    year_after owner inside = added_at book.yearshort (unpaid month_end_call book) owner inside

    want_paid : (owner : ℕ) → owner < owners
        → get_or (unpaid month_end_call book) owner 0 + paid_to month_end_call book owner ≡ month_short book owner
    unfolding wants
    want_paid owner inside = unpaid_paid month_end_call book owner inside

    fund_closes : pos (total (list_below (paid_to month_end_call book) owners)) +ℤ left_over month_end_call book ≡ book.monthbalance
    unfolding fund
    fund_closes = paid_closes month_end_call book (wants_long month_end_call book kept.long)

    no_charge : of_all charge past month_entry ≡ 0
    no_charge = none_of_all charge past month_entry parts.charges

    pub kept_month : Kept year (month_entry ∷ past) (book_after month_end_call book)
    unfolding book_after added_to
    kept_month =
        record {
          same_year = kept.same_year;
          long = record { month = length-replicate {A = ℕ} owners 0; year = length_list_below _ owners };
          sane = sane_after;
          hours = omega (arith, kept.hours, over_next hour_count month_entry past, parts.hour);
          months = omega (arith, kept.months, over_next month_end_count month_entry past, parts.month);
          ended_after = λ e. omega (arith, kept.ended_after e, over_next year_end_count month_entry past);
          ended_only = λ l. kept.ended_only (omega (arith, over_next year_end_count month_entry past, parts.year_end));
          month_owner =
              λ owner inside.
              omega
              (arith, month_after owner inside, since_closed (hour_credit owner) month_entry past parts.month, since_closed (positive_target year owner) month_entry past parts.month);
          all_owner =
              λ owner inside.
              omega
              (arith, month_after owner inside, year_after owner inside, kept.all_owner owner inside, over_next (credit owner) month_entry past, over_next (positive_target year owner) month_entry past, parts.credits owner inside, parts.target owner, want_paid owner inside);
          month_fund =
              omega
              (arith, ints, since_closed (of_all hour_credit) month_entry past parts.month, balance_since_closed collection month_entry past parts.month, since_closed (of_all charge) month_entry past parts.month);
          all_fund =
              omega
              (arith, ints, kept.all_fund, over_next (of_all credit) month_entry past, balance_next collection month_entry past, over_next (of_all charge) month_entry past, parts.all_credits, parts.collected, no_charge, fund_closes);
          empty_month = λ _. (month_after, refl);
          year_done = λ e. absurd (true≢false (sym e ∙ still_Open));
        }
