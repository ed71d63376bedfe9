-- What a run's lines need of a ledger: sums with no entry and of all owners, and the lines that an accepted entry wrote.
-- Assumes nothing.
use Prim.Native.Nat.{ℕ, zero, suc, ◌+◌, ◌<◌}
use mathlib.Core.Path.{◌≡◌, refl, sym, ap, ◌∙◌}
use mathlib.Core.List.{List, [], ◌∷◌}
use native.Mathlib.Omega.{arith}
use lib.ListN.{length, get_or}
use lib.IntN.{ℤ, pos}
use Rattle.numbers.specs.Limits.{owners}
use Rattle.numbers.specs.Lists.{total, list_below}
use Rattle.numbers.specs.Signs.{positive, negative}
use Rattle.numbers.proofs.Counts.{length_list_below, get_or_list_below, total_add}
use Rattle.settlement.specs.Book.{Book}
use Rattle.settlement.specs.Events.{Call, hour_call, month_end_call, year_end_call, hour_lines, payment_lines, lines, Answered}
use Rattle.settlement.specs.Ledger.{Entry, book_at, IsLedger, at_hour, year_end_count, over, sum_over, balance_over, line_of, credit, charge, of_all}
use Rattle.settlement.proofs.Shares.{credit_is}
use Rattle.settlement.proofs.EntryParts.{by_table_lem, written_is, accepted_parts}
use Rattle.settlement.proofs.ClaimHolds.{kept_all}
use Rattle.settlement.proofs.NeverStuck.{sane_goes_on}
use Rattle.calendar.specs.Almanac.{is_outside}
use mathlib.Core.Bool.{false}

-- ---- sums

pub over_none : (part : List Entry → Entry → ℕ) → sum_over part [] ≡ 0
unfolding over
over_none part = refl

pub balance_over_none : (part : List Entry → Entry → ℤ) → balance_over part [] ≡ pos 0
unfolding over
balance_over_none part = refl

-- the sum of all owners together is the owners' sums together
pub over_all : (part : ℕ → List Entry → Entry → ℕ) (ledger : List Entry)
    → sum_over (of_all part) ledger ≡ total (list_below (λ owner. sum_over (part owner) ledger) owners)
unfolding over of_all
over_all part [] = unfold total list_below in refl
over_all part (entry ∷ past) =
    ap (λ (n : ℕ). total (list_below (λ owner. part owner past entry) owners) + n) (over_all part past)
    ∙ sym (total_add (λ owner. part owner past entry) (λ owner. sum_over (part owner) past) owners)

-- ---- lines

pub lines_long : (call : Call) (book : Book) → length (lines call book) ≡ owners
unfolding lines hour_lines payment_lines
lines_long (hour_call file prices collected) book = length_list_below _ owners
lines_long month_end_call book = length_list_below _ owners
lines_long year_end_call book = length_list_below _ owners

-- a line is negative at an hour only
charged : (call : Call) (book : Book) (owner : ℕ) → owner < owners
    → negative (get_or (lines call book) owner (pos 0)) ≡ at_hour call (negative (get_or (lines call book) owner (pos 0)))
unfolding lines payment_lines
charged (hour_call file prices collected) book owner inside = refl
charged month_end_call book owner inside = ap negative (get_or_list_below _ owners (pos 0) owner inside)
charged year_end_call book owner inside = ap negative (get_or_list_below _ owners (pos 0) owner inside)

module _ (year : ℕ) (past : List Entry) (entry : Entry)
    (answered : Answered entry.call (book_at year past) entry.lent entry.result entry.written)
    (accepted : entry.result.refusal ≡ 0) where
  pub written_long : length entry.written ≡ owners
  written_long = ap length (written_is year past entry answered accepted) ∙ lines_long entry.call (book_at year past)

  line_is : (owner : ℕ) → line_of entry owner ≡ get_or (lines entry.call (book_at year past)) owner (pos 0)
  line_is owner = ap (λ (l : List ℤ). get_or l owner (pos 0)) (written_is year past entry answered accepted)

  pub credit_line : (owner : ℕ) → owner < owners → credit owner past entry ≡ positive (line_of entry owner)
  credit_line owner inside =
      (accepted_parts year past entry answered accepted).credits owner inside
      ∙ sym (ap positive (line_is owner) ∙ credit_is entry.call (book_at year past) owner inside)

  pub charge_line : (owner : ℕ) → owner < owners → charge owner past entry ≡ negative (line_of entry owner)
  charge_line owner inside =
      (accepted_parts year past entry answered accepted).charges owner inside
      ∙ sym (ap negative (line_is owner) ∙ charged entry.call (book_at year past) owner inside)

  -- no year end was accepted before an accepted call
  pub year_open : is_outside year ≡ false → IsLedger year past → sum_over year_end_count past ≡ 0
  year_open within ledger = by_count (sum_over year_end_count past) refl
    where
      by_count : (n : ℕ) → sum_over year_end_count past ≡ n → n ≡ 0
      by_count zero is = refl
      by_count (suc n) is =
          let ended = (kept_all year within past ledger).ended_only (omega arith) in
          let over = (sane_goes_on (book_at year past) (kept_all year within past ledger).sane).over ended entry.call (length entry.lent) in
          absurd (omega (arith, over, by_table_lem year past entry answered accepted))
