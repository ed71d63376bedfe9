use Rattle.std.proofs.Common.{rules, ℕ, ◌+◌, ◌<◌, ◌≤◌, ◌≡◌, ◌∙◌, Bool, cond, ltb, List, length, get_or, sym, ap, ap₂, arith}
use borrow.Author.Tests.{le-ltb}
use lib.Seq.{ext_get_or}
use Rattle.numbers.specs.Limits.{most_cents}
use Rattle.numbers.specs.Lists.{total, count_below, list_below}
use Rattle.numbers.proofs.Counts.{count_ext, length_list_below, get_or_list_below}
use Rattle.split.specs.InnerContracts.{ahead_by, place_of, with_odd_cent, WholePaid}
use Rattle.split.specs.Split.{is_ahead, gets_odd_cent, payment, stands_ahead}
use Rattle.split.proofs.Shares.{remainder_small, whole_and_unpaid}
use Rattle.split.proofs.Laws.{paid_short}
use Rattle.split.proofs.pay_shares.Goals as goal

-- without an odd cent a payment is as it was
no_cent : (remainders paid : List ℕ) (i : ℕ) → with_odd_cent remainders 0 paid i ≡ get_or paid i 0
unfolding with_odd_cent
no_cent remainders paid i = rw (le-ltb (place_of remainders i) 0 (omega arith)) (omega arith)

module _ {fund : ℕ} {wants paid remainders : List ℕ} {unpaid : ℕ} (short : fund < total wants) (kept : length remainders ≡ length wants) (done : WholePaid fund wants paid remainders unpaid) where
  -- the place by the kept remainders is the rule's
  place_is : (i : ℕ) → i < length wants → place_of remainders i ≡ count_below (is_ahead fund wants i) (length wants)
  unfolding place_of is_ahead
  place_is i l =
      ap (λ (m : ℕ). count_below (ahead_by (λ k. get_or remainders k 0) i) m) kept
      ∙ count_ext
      (ahead_by (λ k. get_or remainders k 0) i)
      (is_ahead fund wants i)
      (length wants)
      (λ j m. ap₂ (λ (x y : ℕ). stands_ahead x i y j) (done.remains i l) (done.remains j m))

  -- a remainder is below the sum of the wants
  raisable : total wants ≤ most_cents → (k : ℕ) → k < length remainders → get_or remainders k 0 < most_cents
  raisable within k l = omega (arith, done.remains k (omega arith), remainder_small fund wants k (omega arith))

  odd_is : (i : ℕ) → i < length wants → ltb (place_of remainders i) unpaid ≡ gets_odd_cent fund wants i
  unfolding gets_odd_cent
  odd_is i l = ap₂ (λ (p e : ℕ). ltb p e) (place_is i l) (omega (arith, done.cents, whole_and_unpaid fund wants short))

  -- a whole part, with its odd cent, is the rule's payment
  payment_is : (i : ℕ) → i < length wants → with_odd_cent remainders unpaid paid i ≡ payment fund wants i
  unfolding with_odd_cent
  payment_is i l = ap₂ (λ (w : ℕ) (t : Bool). w + cond t 1 0) (done.whole i l) (odd_is i l) ∙ sym (paid_short fund wants short i)

  -- with as many odd cents as are unpaid, the rule's payments
  shares_are : (cents : ℕ) (after : List ℕ) → cents ≡ unpaid → length after ≡ length wants
      → ((i : ℕ) → i < length wants → get_or after i 0 ≡ with_odd_cent remainders cents paid i)
      → after ≡ list_below (payment fund wants) (length wants)
  shares_are cents after all_given as_many given =
      ext_get_or
      0
      after
      (list_below (payment fund wants) (length wants))
      (as_many ∙ sym (length_list_below (payment fund wants) (length wants)))
      (λ i l. at i (omega arith))
    where
      at : (i : ℕ) → i < length wants → get_or after i 0 ≡ get_or (list_below (payment fund wants) (length wants)) i 0
      at i l =
          given i l
          ∙ ap (λ (n : ℕ). with_odd_cent remainders n paid i) all_given
          ∙ payment_is i l
          ∙ sym (get_or_list_below (payment fund wants) (length wants) 0 i l)

pub pay_odd_cents-requires-clause-raisable : goal.pay_odd_cents-requires-clause-raisable
pay_odd_cents-requires-clause-raisable c =
    raisable (omega arith) (search rules) c.pay_whole_parts-unpaid.ensures (omega arith)

pub returns-then-unpaid-gt0 : goal.returns-then-unpaid-gt0
returns-then-unpaid-gt0 c =
    shares_are (omega arith) (search rules) c.pay_whole_parts-unpaid.ensures _ _ (omega arith) (omega arith)
    (λ i l. c.pay_odd_cents.ensures i (omega arith))

pub returns-else-unpaid-gt0 : goal.returns-else-unpaid-gt0
returns-else-unpaid-gt0 c =
    shares_are (omega arith) (search rules) c.pay_whole_parts-unpaid.ensures 0 _ (omega arith) (omega arith)
    (λ i l. sym (no_cent _ _ i))
