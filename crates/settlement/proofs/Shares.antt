-- What the split's laws say of an event: what it pays, what stays unpaid, what is left; for any call and any book.
-- Assumes nothing.
use Prim.Native.Nat.{ℕ, ◌+◌, ◌-◌, ◌≤◌, ◌<◌}
use mathlib.Core.Path.{◌≡◌, refl, sym, ap, ◌∙◌}
use mathlib.Core.List.{List}
use native.Mathlib.Omega.{arith}
use lib.ListN.{length, get_or}
use lib.IntN.{ℤ, pos, negsuc, ◌+ℤ◌}
use lib.Signed.{◌≤ℤ◌, ◌<ℤ◌}
use Rattle.numbers.specs.Limits.{owners}
use Rattle.numbers.specs.Lists.{total, list_below}
use Rattle.numbers.specs.Signs.{positive, negative}
use Rattle.numbers.proofs.Counts.{get_or_list_below, list_of_elements}
use Rattle.settlement.specs.Book.{Book}
use Rattle.settlement.specs.Events.{Call, hour_call, month_end_call, year_end_call, next_targets, target_of, hour_wants, wants, fund, demand, paid, left_over, hour_line, hour_lines, payment_lines, lines, unpaid_of, added_to}
use Rattle.settlement.specs.Claim.{IsNear}
use Rattle.settlement.proofs.Balances.{IsLeft}
use Rattle.settlement.proofs.Payouts.{payout_length, payout_at_most, payout_closes, payout_enough, payout_short, payout_near, left_between}
use Rattle.settlement.proofs.SharingOut.{wants_length}

-- what an owner wants and is paid
abbrev pub wanted : Call → Book → ℕ → ℕ
wanted call book owner = get_or (wants call book) owner 0

abbrev pub paid_to : Call → Book → ℕ → ℕ
paid_to call book owner = get_or (paid call book) owner 0

-- what stays unpaid of the wants
abbrev pub unpaid : Call → Book → List ℕ
unpaid call book = unpaid_of (wants call book) (paid call book)

-- the wants have a place for each owner where the book's cells do
pub record IsLong (book : Book) : Type 0 where
  pub month : length book.monthshort ≡ owners
  pub year : length book.yearshort ≡ owners

pub wants_long : (call : Call) (book : Book) → IsLong book → length (wants call book) ≡ owners
unfolding wants
wants_long (hour_call file prices collected) book long = wants_length (next_targets file prices book)
wants_long month_end_call book long = long.month
wants_long year_end_call book long = long.year

-- cells with the unpaid wants added, one by one
pub added_at : (cells more : List ℕ) (owner : ℕ) → owner < owners
    → get_or (added_to cells more) owner 0 ≡ get_or cells owner 0 + get_or more owner 0
unfolding added_to
added_at cells more owner inside = get_or_list_below (λ o. get_or cells o 0 + get_or more o 0) owners 0 owner inside

module _ (call : Call) (book : Book) where
  pub paid_most : (owner : ℕ) → paid_to call book owner ≤ wanted call book owner
  paid_most owner = payout_at_most (fund call book) (wants call book) owner

  pub unpaid_paid : (owner : ℕ) → owner < owners → get_or (unpaid call book) owner 0 + paid_to call book owner ≡ wanted call book owner
  unfolding unpaid_of
  unpaid_paid owner inside =
      let here = get_or_list_below (λ o. get_or (wants call book) o 0 - get_or (paid call book) o 0) owners 0 owner inside in
      omega (arith, paid_most owner)

  pub left_is : IsLeft (fund call book) (left_over call book)
  left_is = left_between (fund call book) (wants call book)

  -- every want is paid, or no more than nothing is left
  pub all_paid : pos (demand call book) ≤ℤ fund call book → (owner : ℕ) → owner < owners → get_or (unpaid call book) owner 0 ≡ 0
  unfolding demand
  all_paid enough owner inside =
      let same = ap (λ (ps : List ℕ). get_or ps owner 0) (payout_enough (fund call book) (wants call book) enough) in
      omega (arith, unpaid_paid owner inside)

  pub none_left : fund call book <ℤ pos (demand call book) → left_over call book ≤ℤ pos 0
  unfolding demand
  none_left short = payout_short (fund call book) (wants call book) short

  module _ (long : length (wants call book) ≡ owners) where
    -- payments and what is left make up the fund
    pub paid_closes : pos (total (list_below (paid_to call book) owners)) +ℤ left_over call book ≡ fund call book
    paid_closes =
        let all = list_of_elements (paid call book) 0 (payout_length (fund call book) (wants call book) ∙ long) in
        ap (λ (ps : List ℕ). pos (total ps) +ℤ left_over call book) all ∙ payout_closes (fund call book) (wants call book)

    pub demand_of_all : demand call book ≡ total (list_below (wanted call book) owners)
    unfolding demand
    demand_of_all = ap total (sym (list_of_elements (wants call book) 0 long))

    pub near : (owner : ℕ) → owner < owners → IsNear (fund call book) (demand call book) (wanted call book owner) (paid_to call book owner)
    unfolding demand
    near owner inside = payout_near (fund call book) (wants call book) owner (omega arith)

-- ---- the lines

-- the positive part of an hour's line is what was paid, the negative part is its target's
hour_credit_lem : (t : ℤ) (credit : ℕ) → credit ≤ positive t → positive (hour_line t credit) ≡ credit
hour_credit_lem (pos n) credit most = refl
hour_credit_lem (negsuc n) credit most = omega arith

hour_charge : (t : ℤ) (credit : ℕ) → negative (hour_line t credit) ≡ negative t
hour_charge (pos n) credit = refl
hour_charge (negsuc n) credit = refl

module _ (file : List ℕ) (prices : List ℤ) (collected : ℤ) (book : Book) (owner : ℕ) (inside : owner < owners) where
  abbrev call : Call
  call = hour_call file prices collected

  pub hour_wanted : wanted call book owner ≡ positive (target_of (next_targets file prices book) owner)
  unfolding wants hour_wants
  hour_wanted = get_or_list_below (λ o. positive (target_of (next_targets file prices book) o)) owners 0 owner inside

  hour_line_lem : get_or (lines call book) owner (pos 0) ≡ hour_line (target_of (next_targets file prices book) owner) (paid_to call book owner)
  unfolding lines hour_lines
  hour_line_lem = get_or_list_below _ owners (pos 0) owner inside

  pub charge_is : negative (get_or (lines call book) owner (pos 0)) ≡ negative (target_of (next_targets file prices book) owner)
  charge_is = ap negative hour_line_lem ∙ hour_charge (target_of (next_targets file prices book) owner) (paid_to call book owner)

  hour_credit_is : positive (get_or (lines call book) owner (pos 0)) ≡ paid_to call book owner
  hour_credit_is =
      ap positive hour_line_lem
      ∙ hour_credit_lem (target_of (next_targets file prices book) owner) (paid_to call book owner) (omega (arith, paid_most call book owner, hour_wanted))

pub credit_is : (call : Call) (book : Book) (owner : ℕ) → owner < owners
    → positive (get_or (lines call book) owner (pos 0)) ≡ paid_to call book owner
unfolding lines payment_lines
credit_is (hour_call file prices collected) book owner inside = hour_credit_is file prices collected book owner inside
credit_is month_end_call book owner inside = ap positive (get_or_list_below _ owners (pos 0) owner inside)
credit_is year_end_call book owner inside = ap positive (get_or_list_below _ owners (pos 0) owner inside)
