-- The laws of the split, for every fund and every list of wants: what it pays closes to the cent, no payment passes its want, and
-- each is within a cent of its exact share.
-- Assumes nothing.
use Prim.Native.Nat.{ℕ, ◌+◌, ◌-◌, ◌*◌, ◌/◌, ◌≤◌, ◌<◌}
use mathlib.Core.Bool.{Bool, true, false, cond}
use mathlib.Core.List.{List}
use mathlib.Core.Logic.{⊎_elim}
use mathlib.Core.Path.{◌≡◌, refl, sym, ap, ◌∙◌}
use native.Mathlib.Nat.{eq-zero-or-pos, min-eq_left, le_trans}
use native.Mathlib.Omega.{arith}
use lib.Dec.{ltb}
use Rattle.std.proofs.lemmas.Bool.{cases_lt}
use Rattle.std.proofs.lemmas.Bool.Decides.{nat_tests}
use lib.ListN.{length, get_or}
use borrow.Author.Tests.{ltb-true, lt-ltb}
use Rattle.numbers.specs.Lists.{total, count_below}
use Rattle.numbers.proofs.Counts.{one_if_mono, count_le, count_mono, length_list_below, get_or_list_below, get_or_beyond, list_below_get_or, list_below_ext, total_add, total_count, rank}
use Rattle.split.specs.InnerContracts.{ahead_by}
use Rattle.split.specs.Split.{WithinACent, want, whole_part, remainder, unpaid_cents, is_ahead, gets_odd_cent, payment, payments, left}
use Rattle.split.proofs.Order.{ahead_larger, ahead_tie, ahead_irreflexive, ahead_transitive, ahead_one_way}
use Rattle.split.proofs.Shares.{whole_and_remainder, remainder_small, whole_and_unpaid, unpaid_le_remainders, whole_le_want, whole_lt_want}

module _ (fund : ℕ) (wants : List ℕ) where
  pub payments_length : length (payments fund wants) ≡ length wants
  unfolding payments
  payments_length = length_list_below (payment fund wants) (length wants)

  pub payment_at : (i : ℕ) → i < length wants → get_or (payments fund wants) i 0 ≡ payment fund wants i
  unfolding payments
  payment_at i l = get_or_list_below (payment fund wants) (length wants) 0 i l

  -- with enough in the fund, each is paid its want
  pub paid_in_full : total wants ≤ fund → (i : ℕ) → payment fund wants i ≡ want wants i
  unfolding payment
  paid_in_full enough i = grind (arith, nat_tests)

  -- else the whole part of its share, and perhaps an odd cent
  pub paid_short : fund < total wants → (i : ℕ)
      → payment fund wants i ≡ whole_part fund wants i + cond (gets_odd_cent fund wants i) 1 0
  unfolding payment
  paid_short short i = grind (arith, nat_tests)

  pub left_enough : total wants ≤ fund → left fund wants ≡ fund - total wants
  unfolding left
  left_enough enough = grind (arith, nat_tests)

  pub closes_enough : total wants ≤ fund → (payments fund wants ≡ wants) × (left fund wants + total wants ≡ fund)
  unfolding payments
  closes_enough enough = (
    list_below_ext (payment fund wants) (want wants) (length wants) (λ i l. paid_in_full enough i) ∙ list_below_get_or wants 0,
    omega (arith, left_enough enough),
  )

  pub nothing_left : fund < total wants → left fund wants ≡ 0
  unfolding left
  nothing_left short = grind (arith, nat_tests)

  -- exactly the unpaid cents are given
  pub odd_cents : fund < total wants → count_below (gets_odd_cent fund wants) (length wants) ≡ unpaid_cents fund wants
  unfolding gets_odd_cent is_ahead
  odd_cents short =
      let r = remainder fund wants in
      let n = length wants in
      let E = unpaid_cents fund wants in
      let few = unpaid_le_remainders fund wants short in
      let all = count_le (λ i. ltb 0 (r i)) n in
      rank (ahead_by r) (ahead_irreflexive r) (ahead_transitive r) (ahead_one_way r) n E ∙ min-eq_left (le_trans few all)

  pub closes_short : fund < total wants → total (payments fund wants) + left fund wants ≡ fund
  unfolding payments
  closes_short short =
      let w = whole_part fund wants in
      let odd = gets_odd_cent fund wants in
      let n = length wants in
      let each = ap total (list_below_ext (payment fund wants) (λ i. w i + cond (odd i) 1 0) n (λ i l. paid_short short i)) in
      let sum = total_add w (λ i. cond (odd i) 1 0) n in
      omega (arith, total_count odd n, odd_cents short, whole_and_unpaid fund wants short, nothing_left short)

  -- no cent is made or lost
  pub closes : total (payments fund wants) + left fund wants ≡ fund
  closes = ⊎_elim closes_short enough (cases_lt fund (total wants))
    where
      enough : total wants ≤ fund → total (payments fund wants) + left fund wants ≡ fund
      enough h = omega (arith, ap total (closes_enough h).0, (closes_enough h).1)

  -- who gets an odd cent has a remainder: without one, all that have one stand ahead, and they are no fewer than the cents
  pub odd_has_remainder : fund < total wants → (i : ℕ) → gets_odd_cent fund wants i ≡ true → 0 < remainder fund wants i
  unfolding gets_odd_cent is_ahead
  odd_has_remainder short i odd = ⊎_elim none (λ h. h) (eq-zero-or-pos (remainder fund wants i))
    where
      none : remainder fund wants i ≡ 0 → 0 < remainder fund wants i
      none e =
          let r = remainder fund wants in
          let n = length wants in
          let few = unpaid_le_remainders fund wants short in
          let ahead = count_mono (λ j. ltb 0 (r j)) (ahead_by r i) n (λ j l h. ahead_larger (r i) i (r j) j (omega (arith, ltb-true 0 (r j) h))) in
          omega (arith, ltb-true (count_below (ahead_by r i) n) (unpaid_cents fund wants) odd)

  -- a payment where the fund is short, by its parts
  short_parts : fund < total wants → (i : ℕ) → (t : Bool) → gets_odd_cent fund wants i ≡ t
      → payment fund wants i ≡ whole_part fund wants i + cond t 1 0
  short_parts short i t e = paid_short short i ∙ ap (λ (s : Bool). whole_part fund wants i + cond s 1 0) e

  pub at_most_want : (i : ℕ) → payment fund wants i ≤ want wants i
  at_most_want i =
      ⊎_elim
      (λ short. grind (
        arith,
        nat_tests,
        paid_short short i,
        odd_has_remainder short i,
        whole_lt_want fund wants short i,
        whole_le_want fund wants short i,
      ))
      (λ h. omega (arith, paid_in_full h i))
      (cases_lt fund (total wants))

  pub payments_at_most : (i : ℕ) → get_or (payments fund wants) i 0 ≤ get_or wants i 0
  unfolding payments
  payments_at_most i =
      ⊎_elim
      (λ l. omega (arith, payment_at i l, at_most_want i))
      (λ beyond. omega (arith, get_or_beyond (payment fund wants) (length wants) 0 i beyond))
      (cases_lt i (length wants))

  -- D times a payment and the fund times its want differ by less than D
  differ_less : fund < total wants → (i : ℕ)
      → (total wants * payment fund wants i < fund * want wants i + total wants)
      × (fund * want wants i < total wants * payment fund wants i + total wants)
  differ_less short i = go (gets_odd_cent fund wants i) refl
    where
      go : (t : Bool) → gets_odd_cent fund wants i ≡ t
          → (total wants * payment fund wants i < fund * want wants i + total wants)
          × (fund * want wants i < total wants * payment fund wants i + total wants)
      go true e =
          let p = ap (λ (x : ℕ). total wants * x) (short_parts short i true e) in
          let some = odd_has_remainder short i e in
          omega (arith, whole_and_remainder fund wants i, remainder_small fund wants i (omega arith))
      go false e =
          let p = ap (λ (x : ℕ). total wants * x) (short_parts short i false e) in
          omega (arith, whole_and_remainder fund wants i, remainder_small fund wants i (omega arith))

  -- each payment is less than one cent from its exact share
  pub within_a_cent : (i : ℕ) → WithinACent fund (total wants) (want wants i) (payment fund wants i)
  within_a_cent i =
      record {
        enough = λ h. paid_in_full h i;
        not_above = λ short. (differ_less short i).0;
        not_below = λ short. (differ_less short i).1;
      }

  pub wants_nothing : (i : ℕ) → want wants i ≡ 0 → payment fund wants i ≡ 0
  wants_nothing i none = omega (arith, at_most_want i)

  -- of two equal wants the lower number stands ahead
  odd_lower : (i j : ℕ) → i < j → remainder fund wants i ≡ remainder fund wants j → gets_odd_cent fund wants j ≡ true
      → gets_odd_cent fund wants i ≡ true
  unfolding gets_odd_cent is_ahead
  odd_lower i j l same odd =
      let r = remainder fund wants in
      let n = length wants in
      let E = unpaid_cents fund wants in
      let first : ahead_by r j i ≡ true = ahead_tie (r j) j (r i) i (sym same) ∙ lt-ltb i j l in
      let fewer = count_mono (ahead_by r i) (ahead_by r j) n (λ k m h. ahead_transitive r j i k first h) in
      lt-ltb (count_below (ahead_by r i) n) E (omega (arith, ltb-true (count_below (ahead_by r j) n) E odd))

  pub equal_wants : (i j : ℕ) → i < j → want wants i ≡ want wants j
      → (payment fund wants j ≤ payment fund wants i) × (payment fund wants i ≤ payment fund wants j + 1)
  unfolding whole_part remainder
  equal_wants i j l same =
      ⊎_elim short (λ h. omega (arith, paid_in_full h i, paid_in_full h j)) (cases_lt fund (total wants))
    where
      short : fund < total wants
          → (payment fund wants j ≤ payment fund wants i) × (payment fund wants i ≤ payment fund wants j + 1)
      short h =
          let D = total wants in
          let whole : whole_part fund wants i ≡ whole_part fund wants j = ap (λ (w : ℕ). fund * w / D) same in
          let remainder : remainder fund wants i ≡ remainder fund wants j = ap (λ (w : ℕ). fund * w - D * (fund * w / D)) same in
          let lower = one_if_mono (gets_odd_cent fund wants j) (gets_odd_cent fund wants i) (odd_lower i j l remainder) in
          let one = one_if_mono (gets_odd_cent fund wants i) true (λ _. refl) in
          omega (arith, paid_short h i, paid_short h j)
