-- An accepted year end keeps the tie between the book and its entries, and leaves a fund of at most zero or nobody short.
-- Assumes nothing.
use Prim.Native.Nat.{ℕ, ◌+◌, ◌≤◌, ◌<◌}
use mathlib.Core.Path.{◌≡◌, refl, subst}
use mathlib.Core.Bool.{false}
use mathlib.Core.Logic.{◌⊎◌, inl, inr}
use mathlib.Core.List.{List, ◌∷◌}
use native.Mathlib.Nat.{le_antisymm}
use native.Mathlib.Omega.{arith}
use lib.ListN.{get_or}
use lib.IntN.{ℤ, pos, ◌+ℤ◌}
use lib.Signed.{◌≤ℤ◌, ◌<ℤ◌}
use borrow.Author.Differences.{ints}
use borrow.Author.Tests.{le-ltb}
use Rattle.std.proofs.lemmas.Int.{by_lt_z}
use Rattle.numbers.specs.Limits.{owners}
use Rattle.numbers.specs.Lists.{total, list_below}
use Rattle.numbers.proofs.Counts.{length_list_below}
use Rattle.calendar.specs.Year.{months_in_year}
use Rattle.settlement.specs.Book.{Book, year_short, open_shortfall, is_short, fund_left}
use Rattle.settlement.specs.Events.{Settled, year_end_call, wants, fund, demand, paid, left_over, unpaid_of, book_after}
use Rattle.settlement.specs.Ledger.{Entry, book_at, hour_count, month_end_count, year_end_count, positive_target, credit, hour_credit, charge, collection, of_all}
use Rattle.settlement.proofs.Paying.{unpaid_small}
use Rattle.settlement.proofs.Shares.{paid_to, unpaid, wants_long, unpaid_paid, paid_closes, left_is, all_paid, none_left}
use Rattle.settlement.proofs.Balances.{InBounds, Bounded, nothing_in_bounds, left_in_bounds}
use Rattle.settlement.proofs.Sane.{Sane}
use Rattle.settlement.proofs.EntryParts.{Parts, over_next, since_next, balance_next, balance_since_next, none_of_all}
use Rattle.settlement.proofs.Kept.{Kept}

module _ (year : ℕ) (past : List Entry) (lent : List ℤ) (result : Settled) (written : List ℤ) where
  abbrev pub year_entry : Entry
  year_entry = record { call = year_end_call; lent = lent; result = result; written = written }

  module _ (kept : Kept year past (book_at year past)) (parts : Parts year past year_entry) (complete : months_in_year ≤ (book_at year past).months) where
    abbrev book : Book
    book = book_at year past

    pub closed : book.months ≡ months_in_year
    closed = le_antisymm kept.sane.months_most complete

    unpaid_total : total (unpaid year_end_call book) ≤ total book.yearshort
    unfolding wants
    unpaid_total = unpaid_small book.yearshort (paid year_end_call book) kept.long.year

    -- what is left of the year's balance stays
    balances_after : Bounded (book_after year_end_call book)
    unfolding book_after fund
    balances_after =
        record {
          month = kept.sane.bounded.month;
          year =
              subst (InBounds book.hours) (omega (arith, ints))
              (left_in_bounds book.hours (pos 0) book.yearbalance (left_over year_end_call book) (nothing_in_bounds book.hours)
              (subst (InBounds book.hours) (omega (arith, ints)) kept.sane.bounded.year) (left_is year_end_call book));
          both =
              left_in_bounds book.hours book.monthbalance book.yearbalance (left_over year_end_call book) kept.sane.bounded.month
              kept.sane.bounded.both (left_is year_end_call book);
        }

    sane_after : Sane (book_after year_end_call book)
    unfolding book_after fund
    sane_after =
        record {
          in_range = kept.sane.in_range;
          hours_most = kept.sane.hours_most;
          months_most = kept.sane.months_most;
          after_last = kept.sane.after_last;
          before_next = kept.sane.before_next;
          full = kept.sane.full;
          ended_full = λ _. closed;
          short_most = omega (arith, unpaid_total, kept.sane.short_most);
          bounded = balances_after;
        }

    year_after : (owner : ℕ) → year_short (book_after year_end_call book) owner ≡ get_or (unpaid year_end_call book) owner 0
    unfolding book_after
    year_after owner = refl

    want_paid : (owner : ℕ) → owner < owners
        → get_or (unpaid year_end_call book) owner 0 + paid_to year_end_call book owner ≡ year_short book owner
    unfolding wants
    want_paid owner inside = unpaid_paid year_end_call book owner inside

    fund_closes : pos (total (list_below (paid_to year_end_call book) owners)) +ℤ left_over year_end_call book ≡ book.yearbalance
    unfolding fund
    fund_closes = paid_closes year_end_call book (wants_long year_end_call book kept.long)

    no_charge : of_all charge past year_entry ≡ 0
    no_charge = none_of_all charge past year_entry parts.charges

    no_hour_credit : of_all hour_credit past year_entry ≡ 0
    no_hour_credit = none_of_all hour_credit past year_entry parts.hour_credits

    -- the fund pays every want, or no more than nothing of it is left
    done : (fund_left (book_after year_end_call book) ≤ℤ pos 0)
        ⊎ ((owner : ℕ) → owner < owners → is_short (book_after year_end_call book) owner ≡ false)
    unfolding book_after
    done = by_lt_z (fund year_end_call book) (pos (demand year_end_call book)) short enough
      where
        enough : pos (demand year_end_call book) ≤ℤ fund year_end_call book
            → (fund_left (book_after year_end_call book) ≤ℤ pos 0)
            ⊎ ((owner : ℕ) → owner < owners → is_short (book_after year_end_call book) owner ≡ false)
        enough full =
            inr
            (λ owner inside.
            le-ltb 0 (open_shortfall (book_after year_end_call book) owner)
            (omega (arith, (kept.empty_month closed).0 owner inside, year_after owner, all_paid year_end_call book full owner inside)))

        short : fund year_end_call book <ℤ pos (demand year_end_call book)
            → (fund_left (book_after year_end_call book) ≤ℤ pos 0)
            ⊎ ((owner : ℕ) → owner < owners → is_short (book_after year_end_call book) owner ≡ false)
        short less = inl (omega (arith, ints, (kept.empty_month closed).1, none_left year_end_call book less))

    pub kept_year : Kept year (year_entry ∷ past) (book_after year_end_call book)
    unfolding book_after unpaid_of
    kept_year =
        record {
          same_year = kept.same_year;
          long = record { month = kept.long.month; year = length_list_below _ owners };
          sane = sane_after;
          hours = omega (arith, kept.hours, over_next hour_count year_entry past, parts.hour);
          months = omega (arith, kept.months, over_next month_end_count year_entry past, parts.month);
          ended_after = λ _. omega (arith, over_next year_end_count year_entry past, parts.year_end);
          ended_only = λ _. refl;
          month_owner =
              λ owner inside.
              omega
              (arith, kept.month_owner owner inside, since_next (hour_credit owner) year_entry past parts.month, since_next (positive_target year owner) year_entry past parts.month, parts.hour_credits owner inside, parts.target owner);
          all_owner =
              λ owner inside.
              omega
              (arith, year_after owner, kept.all_owner owner inside, over_next (credit owner) year_entry past, over_next (positive_target year owner) year_entry past, parts.credits owner inside, parts.target owner, want_paid owner inside);
          month_fund =
              omega
              (arith, ints, kept.month_fund, since_next (of_all hour_credit) year_entry past parts.month, balance_since_next collection year_entry past parts.month, since_next (of_all charge) year_entry past parts.month, no_hour_credit, no_charge, parts.collected);
          all_fund =
              omega
              (arith, ints, kept.all_fund, over_next (of_all credit) year_entry past, balance_next collection year_entry past, over_next (of_all charge) year_entry past, parts.all_credits, parts.collected, no_charge, fund_closes);
          empty_month = kept.empty_month;
          year_done = λ _. done;
        }
