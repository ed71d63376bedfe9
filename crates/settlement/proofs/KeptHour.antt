-- An accepted hour keeps the tie between the book and its entries.
-- Assumes nothing.
use Prim.Native.Nat.{ℕ, ◌+◌, ◌<◌}
use mathlib.Core.Path.{◌≡◌, sym, ap, ap₂, subst, ◌∙◌}
use mathlib.Core.Bool.{Bool, false, ◌&&◌, true≢false}
use mathlib.Core.List.{List, ◌∷◌}
use native.Mathlib.Omega.{arith}
use lib.Dec.{eqb}
use lib.ListN.{get_or}
use lib.IntN.{ℤ, pos, ◌+ℤ◌}
use borrow.Author.Differences.{ints}
use borrow.Author.Tests.{lt-ltb, eqb-false}
use Rattle.numbers.specs.Limits.{owners}
use Rattle.numbers.specs.Lists.{total, list_below}
use Rattle.numbers.specs.Signs.{positive, negative}
use Rattle.numbers.proofs.Counts.{length_list_below}
use Rattle.calendar.specs.Year.{months_in_year, month_end, is_month_end}
use Rattle.target.specs.Target.{target}
use Rattle.target.proofs.Answer.{target_at}
use Rattle.settlement.specs.Book.{Book, month_short, fund_left}
use Rattle.settlement.specs.Events.{Settled, Call, hour_call, next_targets, target_of, hour_charges, fund, left_over, added_to, book_after}
use Rattle.settlement.specs.Ledger.{Entry, book_at, hour_count, month_end_count, year_end_count, positive_target, credit, hour_credit, charge, collection, of_all}
use Rattle.settlement.proofs.Shares.{wanted, paid_to, unpaid, wants_long, added_at, unpaid_paid, paid_closes, left_is, hour_wanted, charge_is}
use Rattle.settlement.proofs.Balances.{InBounds, Bounded, hour_in_bounds, longer_bounds}
use Rattle.settlement.proofs.Sane.{Sane}
use Rattle.settlement.proofs.Accepted.{HourAccepted}
use Rattle.settlement.proofs.EntryParts.{Parts, over_next, since_next, balance_next, balance_since_next, all_is}
use Rattle.settlement.proofs.Kept.{Kept}

-- a month end that is not due, though there is a next one, is still ahead
pub still_ahead : (book : Book) → is_month_end book.year book.hours book.months ≡ false → book.months < months_in_year
    → book.hours ≡ month_end book.year book.months → ⊥
still_ahead book not_due more at =
    eqb-false book.hours (month_end book.year book.months)
    (sym (ap (λ (t : Bool). t && eqb book.hours (month_end book.year book.months)) (lt-ltb book.months months_in_year more)) ∙ not_due) at

module _ (year : ℕ) (past : List Entry) (file : List ℕ) (prices : List ℤ) (collected : ℤ) (lent : List ℤ) (result : Settled) (written : List ℤ) where
  abbrev pub hour_entry : Entry
  hour_entry = record { call = hour_call file prices collected; lent = lent; result = result; written = written }

  abbrev call : Call
  call = hour_call file prices collected

  module _ (kept : Kept year past (book_at year past)) (parts : Parts year past hour_entry) (accepted : HourAccepted file prices collected (book_at year past)) where
    abbrev book : Book
    book = book_at year past

    within_year : book.months ≡ months_in_year → ⊥
    within_year e = omega (arith, kept.sane.full e, accepted.in_year)

    balances_after : Bounded (book_after call book)
    unfolding book_after
    balances_after =
        record {
          month = hour_in_bounds book.hours book.monthbalance (fund call book) (left_over call book) kept.sane.bounded.month accepted.fund_bounded (left_is call book);
          year = longer_bounds book.hours book.yearbalance kept.sane.bounded.year;
          both =
              subst (InBounds (book.hours + 1)) (omega (arith, ints))
              (hour_in_bounds book.hours (fund_left book) (fund call book) (left_over call book) kept.sane.bounded.both accepted.fund_bounded (left_is call book));
        }

    sane_after : Sane (book_after call book)
    unfolding book_after
    sane_after =
        record {
          in_range = kept.sane.in_range;
          hours_most = omega (arith, accepted.in_year);
          months_most = kept.sane.months_most;
          after_last = λ more. omega (arith, kept.sane.after_last more);
          before_next =
              λ more. omega (arith, kept.sane.before_next more, still_ahead book accepted.not_due more);
          full = λ e. absurd (within_year e);
          ended_full = kept.sane.ended_full;
          short_most = accepted.carry;
          bounded = balances_after;
        }

    -- what the entry adds to each sum
    pub target_is : (owner : ℕ) → owner < owners → positive_target year owner past hour_entry ≡ wanted call book owner
    target_is owner inside =
        parts.target owner
        ∙ ap₂ (λ (of hour : ℕ). positive (target of file prices hour owner)) (sym kept.same_year) (sym kept.hours)
        ∙ sym (hour_wanted file prices collected book owner inside ∙ ap positive (target_at book.year file prices book.hours owner inside))

    all_hour_credits : of_all hour_credit past hour_entry ≡ total (list_below (paid_to call book) owners)
    all_hour_credits = all_is hour_credit past hour_entry (paid_to call book) parts.hour_credits

    pub brought : collection past hour_entry +ℤ pos (of_all charge past hour_entry) ≡ fund call book
    unfolding fund hour_charges
    brought =
        ap (λ (z : ℤ). z +ℤ pos (of_all charge past hour_entry)) parts.collected
        ∙ ap (λ (n : ℕ). collected +ℤ pos n)
        (all_is charge past hour_entry (λ owner. negative (target_of (next_targets file prices book) owner))
        (λ owner inside. parts.charges owner inside ∙ charge_is file prices collected book owner inside))

    closes : pos (total (list_below (paid_to call book) owners)) +ℤ left_over call book ≡ fund call book
    closes = paid_closes call book (wants_long call book kept.long)

    month_short_after : (owner : ℕ) → owner < owners
        → month_short (book_after call book) owner ≡ month_short book owner + get_or (unpaid call book) owner 0
    unfolding book_after
    month_short_after owner inside = added_at book.monthshort (unpaid call book) owner inside

    pub kept_hour : Kept year (hour_entry ∷ past) (book_after call book)
    unfolding book_after added_to
    kept_hour =
        record {
          same_year = kept.same_year;
          long = record { month = length_list_below _ owners; year = kept.long.year };
          sane = sane_after;
          hours = omega (arith, kept.hours, over_next hour_count hour_entry past, parts.hour);
          months = omega (arith, kept.months, over_next month_end_count hour_entry past, parts.month);
          ended_after = λ e. omega (arith, kept.ended_after e, over_next year_end_count hour_entry past);
          ended_only = λ l. kept.ended_only (omega (arith, over_next year_end_count hour_entry past, parts.year_end));
          month_owner =
              λ owner inside.
              omega
              (arith, month_short_after owner inside, kept.month_owner owner inside, since_next (hour_credit owner) hour_entry past parts.month, since_next (positive_target year owner) hour_entry past parts.month, parts.hour_credits owner inside, target_is owner inside, unpaid_paid call book owner inside);
          all_owner =
              λ owner inside.
              omega
              (arith, month_short_after owner inside, kept.all_owner owner inside, over_next (credit owner) hour_entry past, over_next (positive_target year owner) hour_entry past, parts.credits owner inside, target_is owner inside, unpaid_paid call book owner inside);
          month_fund =
              omega
              (arith, ints, kept.month_fund, since_next (of_all hour_credit) hour_entry past parts.month, balance_since_next collection hour_entry past parts.month, since_next (of_all charge) hour_entry past parts.month, all_hour_credits, brought, closes);
          all_fund =
              omega
              (arith, ints, kept.all_fund, over_next (of_all credit) hour_entry past, balance_next collection hour_entry past, over_next (of_all charge) hour_entry past, parts.all_credits, brought, closes);
          empty_month = λ e. absurd (within_year e);
          year_done = λ e. absurd (true≢false (sym e ∙ accepted.open_book));
        }
