-- What a split call answers, by its refusal table: laws for the call's own proof and for its callers.
-- Assumes nothing.
use Prim.Native.Nat.{ℕ, ◌+◌, ◌≤◌, ◌<◌}
use mathlib.Core.Path.{◌≡◌, refl, sym, ap, ap₂, subst, ◌∙◌}
use mathlib.Core.Bool.{true, false, not}
use mathlib.Core.List.{List, [], ◌∷◌}
use native.Mathlib.Omega.{arith}
use lib.Dec.{ltb, eqb}
use lib.ListN.{length, get_or}
use Rattle.std.specs.Prelude.{Result, Ok, Err}
use Rattle.std.specs.Result.{result_unwrap_or}
use Rattle.std.proofs.lemmas.Bool.Decides.{nat_tests}
use Rattle.numbers.specs.Limits.{owners, most_cents}
use Rattle.numbers.specs.Lists.{total}
use Rattle.numbers.specs.declared.refusal.Refusal.{Refusal}
use Rattle.numbers.specs.Refusals.{Row, ◌if◌, first_refusal, refusal_of, answer_by, answer_number, answered}
use Rattle.numbers.proofs.Refusals.{answer_accepted, answer_refused, answered_ok, refused_with, table_answered, value_answered}
use Rattle.split.specs.declared.Limits.{Limits}
use Rattle.split.specs.Split.{WithinACent, Accepted, want, payment, payments, left, limits_of, has_wrong_limits, split_refusal, allocation, payments_after}
use Rattle.split.proofs.Laws.{payments_length, payment_at, payments_at_most, closes, closes_enough, left_enough, nothing_left, within_a_cent, equal_wants}

-- the rows in their order: each is reached where the ones before it let the call pass
module _ (limits : Limits) (wants : List ℕ) (places : ℕ) where
  pub unequal : (length wants ≡ places → ⊥) → split_refusal limits wants places ≡ 4
  unfolding split_refusal first_refusal
  unequal h = grind (arith, nat_tests)

  module _ (equal : length wants ≡ places) where
    pub too_long : owners < length wants → split_refusal limits wants places ≡ 4
    unfolding split_refusal first_refusal
    too_long h = grind (arith, nat_tests)

    module _ (short : length wants ≤ owners) where
      pub wrong_limits : has_wrong_limits limits ≡ true → split_refusal limits wants places ≡ 4
      unfolding split_refusal first_refusal
      wrong_limits h = grind (arith, nat_tests)

      module _ (right : has_wrong_limits limits ≡ false) where
        pub too_many : limits.owners < length wants → split_refusal limits wants places ≡ 16
        unfolding split_refusal first_refusal
        too_many h = grind (arith, nat_tests)

        module _ (few : length wants ≤ limits.owners) where
          pub too_large : most_cents < total wants → split_refusal limits wants places ≡ 11
          unfolding split_refusal first_refusal
          too_large h = grind (arith, nat_tests)

          module _ (small : total wants ≤ most_cents) where
            pub too_much : limits.total < total wants → split_refusal limits wants places ≡ 17
            unfolding split_refusal first_refusal
            too_much h = grind (arith, nat_tests)

            pub accepted : total wants ≤ limits.total → split_refusal limits wants places ≡ 0
            unfolding split_refusal first_refusal
            accepted h = grind (arith, nat_tests)

-- the table of the scope paper
abbrev pub scope_rows : List ℕ → ℕ → List Row
scope_rows wants places =
    (4 if not (eqb (length wants) places)) ∷ (4 if ltb owners (length wants)) ∷ (11 if ltb most_cents (total wants)) ∷ []

-- with the widest limits that is all, and 16 and 17 never come
pub widest_table : (wants : List ℕ) (places : ℕ) → split_refusal (limits_of owners most_cents) wants places ≡ first_refusal (scope_rows wants places)
unfolding split_refusal first_refusal
widest_table wants places = grind (arith, nat_tests)

-- a call's answer in numbers: each number of the table is a refusal's
pub split_number : (limits : Limits) (fund : ℕ) (wants : List ℕ) (places : ℕ)
    → answer_number (allocation limits fund wants places) ≡ split_refusal limits wants places
unfolding allocation split_refusal
split_number limits fund wants places = table_answered _ (left fund wants) refl

module _ (limits : Limits) (fund : ℕ) (wants : List ℕ) where
  -- and what is left, or 0
  pub left_or_none : (places : ℕ)
      → result_unwrap_or (allocation limits fund wants places) 0 ≡ answer_by (split_refusal limits wants places) (left fund wants) 0
  unfolding allocation
  left_or_none places = value_answered (split_refusal limits wants places) 0 (left fund wants) 0

  -- a split that is not refused pays the payments, and leaves what is left
  pub pays : (before : List ℕ) → split_refusal limits wants (length before) ≡ 0
      → payments_after limits fund wants before ≡ payments fund wants
  unfolding payments_after
  pays before clear = answer_accepted _ (payments fund wants) before clear

  pub leaves : (places : ℕ) → split_refusal limits wants places ≡ 0 → allocation limits fund wants places ≡ Ok (left fund wants)
  unfolding allocation
  leaves places clear = ap (λ (number : ℕ). answered number 0 (left fund wants)) clear

  -- a refused one answers the refusal of the number, and leaves the payments as they were
  pub refused_answer : (places : ℕ) → 0 < split_refusal limits wants places
      → allocation limits fund wants places ≡ Err (refusal_of (split_refusal limits wants places) 0)
  unfolding allocation
  refused_answer places some = refused_with (split_refusal limits wants places) 0 (left fund wants) some

  pub refused_payments : (before : List ℕ) → 0 < split_refusal limits wants (length before)
      → payments_after limits fund wants before ≡ before
  unfolding payments_after
  refused_payments before some =
      answer_refused (split_refusal limits wants (length before)) (payments fund wants) before (omega arith)

-- ---- an accepted call

-- its limits are good, and its wants within them
pub accepted_means : (limits : Limits) (wants : List ℕ) (places : ℕ) → split_refusal limits wants places ≡ 0
    → (has_wrong_limits limits ≡ false) × ((length wants ≤ limits.owners) × (total wants ≤ limits.total))
unfolding split_refusal first_refusal
accepted_means limits wants places clear = (grind (arith, nat_tests), (grind (arith, nat_tests), grind (arith, nat_tests)))

-- what it promises, whatever the limits: from the call's promises, and from what it answered
pub accepted_call : (limits : Limits) (fund : ℕ) (wants before : List ℕ) {outcome : Result ℕ Refusal} {after : List ℕ} {rest : ℕ}
    → outcome ≡ allocation limits fund wants (length before) → after ≡ payments_after limits fund wants before → outcome ≡ Ok rest
    → Accepted limits fund wants rest after
unfolding allocation
accepted_call limits fund wants before {outcome} {after} {rest} answers writes accepts =
    record {
      good_limits = inside.0;
      few = inside.1.0;
      within = inside.1.1;
      gives = gives;
      pays = paid;
      as_many = ap length paid ∙ payments_length fund wants;
      closes = ap₂ (λ (p : List ℕ) (r : ℕ). total p + r) paid gives ∙ closes fund wants;
      at_most = λ i. subst (λ (p : List ℕ). get_or p i 0 ≤ want wants i) (sym paid) (payments_at_most fund wants i);
      near = λ i l. subst (λ (c : ℕ). WithinACent fund (total wants) (want wants i) c) (sym (at i l)) (within_a_cent fund wants i);
      alike = λ i j l m same. let both = equal_wants fund wants i j l same in (omega (arith, at i (omega arith), at j m), omega (arith, at i (omega arith), at j m));
      enough = λ h. let all = closes_enough fund wants h in (paid ∙ all.0, omega (arith, gives, all.1));
      short = λ h. gives ∙ nothing_left fund wants h;
    }
  where
    number : (split_refusal limits wants (length before) ≡ 0) × (rest ≡ left fund wants)
    number = answered_ok (split_refusal limits wants (length before)) 0 (left fund wants) (sym answers ∙ accepts)

    inside : (has_wrong_limits limits ≡ false) × ((length wants ≤ limits.owners) × (total wants ≤ limits.total))
    inside = accepted_means limits wants (length before) number.0

    gives : rest ≡ left fund wants
    gives = number.1

    paid : after ≡ payments fund wants
    paid = writes ∙ pays limits fund wants before number.0

    at : (i : ℕ) → i < length wants → get_or after i 0 ≡ payment fund wants i
    at i l = ap (λ (p : List ℕ). get_or p i 0) paid ∙ payment_at fund wants i l

-- for what a split answers
pub ruleset answers = (
  unequal,
  too_long,
  wrong_limits,
  too_many,
  too_large,
  too_much,
  refused_answer,
  refused_payments,
  accepted,
  leaves,
  pays,
  left_enough,
  nothing_left,
  closes_enough,
)
