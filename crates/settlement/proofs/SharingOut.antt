-- An hour shared out from its targets: refused by its size, or paid.
-- Assumes nothing.
use Prim.Native.Nat.{ℕ, ◌+◌, ◌≤◌, ◌<◌}
use mathlib.Core.Path.{◌≡◌, sym, ap, ap₂, ◌∙◌}
use mathlib.Core.List.{List}
use native.Mathlib.Omega.{arith}
use lib.ListN.{length}
use lib.IntN.{ℤ, pos, ◌+ℤ◌, ◌-ℤ◌}
use lib.Signed.{◌≤ℤ◌}
use borrow.Author.Differences.{ints}
use borrow.Author.Tests.{ltb-false, lt-ltb, le-ltb}
use Rattle.numbers.specs.Limits.{owners, most_cents}
use Rattle.numbers.specs.Lists.{total}
use Rattle.numbers.specs.Refusals.{answered, first_refusal}
use Rattle.numbers.proofs.Counts.{length_list_below}
use Rattle.numbers.proofs.Refusals.{refusal_none, refusal_here, refusal_next, refusal_clear}
use Rattle.settlement.specs.declared.payment.Paid.{Paid}
use Rattle.settlement.specs.Book.{Book, all_shortfalls}
use Rattle.settlement.specs.Events.{hour_wants, hour_charges, hour_fund, unpaid_of, hour_book, sum_rows, size_rows}
use Rattle.settlement.specs.InnerContracts.{paid_from, carry_rows}
use Rattle.settlement.proofs.Paying.{added_total, unpaid_is}
use Rattle.settlement.proofs.Payouts.{payout_closes}

pub wants_length : (targets : List ℤ) → length (hour_wants targets) ≡ owners
unfolding hour_wants
wants_length targets = length_list_below _ owners

-- ---- the rows of an hour's size

module _ (book : Book) (fund : ℤ) (wants : List ℕ) (charges : ℕ) where
  abbrev size : ℕ
  size = first_refusal (size_rows book fund wants charges)

  -- none of them holds
  pub size_clear : size ≡ 0
      → (total wants ≤ most_cents) × (charges ≤ most_cents) × (all_shortfalls (hour_book book fund wants) ≤ most_cents)
  unfolding size_rows
  size_clear clear =
      let r1 = refusal_clear 9 _ _ (omega arith) clear in
      let r2 = refusal_clear 9 _ _ (omega arith) r1.1 in
      let r3 = refusal_clear 10 _ _ (omega arith) r2.1 in
      (ltb-false most_cents (total wants) r1.0, ltb-false most_cents charges r2.0, ltb-false most_cents (all_shortfalls (hour_book book fund wants)) r3.0)

-- they are those by all shortfalls together before it
pub by_carry : (book : Book) (fund : ℤ) (wants : List ℕ) (charges : ℕ) → length book.monthshort ≡ owners
    → size_rows book fund wants charges ≡ carry_rows (all_shortfalls book) fund wants charges
unfolding size_rows unpaid_of
by_carry book fund wants charges long =
    let more = added_total book.monthshort (paid_from fund wants).unpaid long (length_list_below _ owners) in
    let same : all_shortfalls (hour_book book fund wants) ≡ all_shortfalls book + total (paid_from fund wants).unpaid = omega (arith, more) in
    ap (sum_rows (total wants) charges) same

module _ (carry : ℕ) (fund : ℤ) (wants : List ℕ) (charges : ℕ) where
  abbrev found : ℕ
  found = first_refusal (carry_rows carry fund wants charges)

  pub wants_over : most_cents < total wants → found ≡ 9
  wants_over over = refusal_here 9 _ (lt-ltb most_cents (total wants) over)

  module _ (few : total wants ≤ most_cents) where
    pub charges_over : most_cents < charges → found ≡ 9
    charges_over over =
        refusal_next 9 _ (le-ltb most_cents (total wants) few) ∙ refusal_here 9 _ (lt-ltb most_cents charges over)

    module _ (light : charges ≤ most_cents) where
      abbrev after : ℕ
      after = carry + total (paid_from fund wants).unpaid

      pub carry_over : most_cents < after → found ≡ 10
      carry_over over =
          refusal_next 9 _ (le-ltb most_cents (total wants) few)
          ∙ refusal_next 9 _ (le-ltb most_cents charges light)
          ∙ refusal_here 10 _ (lt-ltb most_cents after over)

      pub all_within : after ≤ most_cents → found ≡ 0
      all_within within =
          refusal_next 9 _ (le-ltb most_cents (total wants) few)
          ∙ refusal_next 9 _ (le-ltb most_cents charges light)
          ∙ refusal_next 10 _ (le-ltb most_cents after within)
          ∙ refusal_none

-- ---- what is paid

-- from any fund
module _ (fund : ℤ) (wants : List ℕ) (long : length wants ≡ owners) {paid : Paid} {left : ℤ} (p : paid ≡ paid_from fund wants) (l : left ≡ paid.left) where
  rest : left ≡ (paid_from fund wants).left
  rest = l ∙ ap (λ (x : Paid). x.left) p

  fund_is : paid.funding.fund ≡ fund
  fund_is = ap (λ (x : Paid). x.funding.fund) p

  demand_is : paid.funding.demand ≡ total wants
  demand_is = ap (λ (x : Paid). x.funding.demand) p

  -- what of it is not left
  pub spent : (pos 0 ≤ℤ (paid.funding.fund -ℤ left)) × ((paid.funding.fund -ℤ left) ≤ℤ pos paid.funding.demand)
  spent = (omega (arith, ints, payout_closes fund wants, rest, fund_is), omega (arith, ints, unpaid_is fund wants long, rest, fund_is, demand_is))

  -- what is unpaid in all
  pub unpaid_total : (unpaid : ℕ) → pos unpaid +ℤ (paid.funding.fund -ℤ left) ≡ pos paid.funding.demand → unpaid ≡ total (paid_from fund wants).unpaid
  unpaid_total unpaid is = omega (arith, ints, is, unpaid_is fund wants long, rest, fund_is, demand_is)

-- from the fund of an hour
module _ (collected : ℤ) (targets : List ℤ) where
  abbrev due : Paid
  due = paid_from (hour_fund collected targets) (hour_wants targets)

  -- from the parts that the code has worked out
  pub paid_is : {wants : List ℕ} {charges : ℕ} {paid : Paid} → wants ≡ hour_wants targets → charges ≡ hour_charges targets
      → paid ≡ paid_from (collected +ℤ pos charges) wants → paid ≡ due
  paid_is w c p = p ∙ ap₂ (λ (x : ℕ) (ws : List ℕ). paid_from (collected +ℤ pos x) ws) c w

  -- what is answered by the number
  module _ (carry : ℕ) where
    abbrev number : ℕ
    number = found carry (hour_fund collected targets) (hour_wants targets) (hour_charges targets)

    pub shared : (k : ℕ) → number ≡ k → answered k 0 due ≡ answered number 0 due
    shared k e = ap (λ (n : ℕ). answered n 0 due) (sym e)
