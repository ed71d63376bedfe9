-- The targets of an hour: the amount's row stands between those of the target call.
-- Assumes nothing.
use Prim.Native.Nat.{ℕ, zero, suc, ◌<◌}
use mathlib.Core.Path.{◌≡◌, refl, sym, ap, ◌∙◌}
use mathlib.Core.Bool.{Bool, true, false, not, ◌&&◌, false≢true}
use mathlib.Core.List.{List}
use native.Mathlib.Omega.{arith}
use lib.Dec.{ltb}
use lib.ListN.{length}
use lib.IntN.{ℤ}
use borrow.Author.Tests.{lt-ltb}
use Rattle.std.specs.Prelude.{Result, Ok, Err}
use Rattle.numbers.specs.declared.refusal.Refusal.{Refusal}
use Rattle.numbers.specs.declared.refusal.Refusal.TheVariants.{WildAmount}
use Rattle.numbers.specs.Limits.{owners}
use Rattle.numbers.specs.Refusals.{answered, first_refusal}
use mathlib.Core.Logic.{inl, inr}
use Rattle.numbers.proofs.Refusals.{IsNumber, answered_err, answered_ok, number_back, refused_with}
use Rattle.calendar.specs.Almanac.{is_outside}
use Rattle.calendar.specs.Year.{hours_in_year}
use Rattle.rights.specs.Faults.{faulty_record}
use Rattle.target.specs.Target.{target_refusal, targets, target_lines}
use Rattle.target.proofs.Answer.{writes_targets}
use Rattle.settlement.specs.Events.{input_rows, is_wild_amount}
use Rattle.settlement.specs.InnerContracts.{is_before_amount}
use Rattle.settlement.proofs.Refusing.{before_amount, at_amount, past_amount}
use Rattle.target.proofs.Bounds.{call_number}
use Rattle.target.specs.Target.{is_wrong_lines}

-- whether a call is refused by a number below 6, by its number
before_by_number : (number faulty : ℕ) → IsNumber number → is_before_amount (answered number faulty tt) ≡ (ltb 0 number && ltb number 6)
before_by_number zero faulty some = refl
before_by_number (suc n) faulty (inl none) = absurd (omega arith)
before_by_number (suc n) faulty (inr has) = rw (lt-ltb 0 (suc n) (omega arith), number_back (suc n) faulty has) refl

module _ (year : ℕ) (file : List ℕ) (prices : List ℤ) (collected : ℤ) (hour : ℕ) (within : is_outside year ≡ false) (inside : hour < hours_in_year year) where
  abbrev called : ℕ
  called = target_refusal year file prices hour owners

  abbrev input : ℕ
  input = first_refusal (input_rows year file prices collected)

  abbrev names : ℕ → ℕ
  names = faulty_record year (length prices) file

  abbrev answer : Result (List ℤ) Refusal
  answer = answered input (names input) (targets year file prices hour)

  by_number : (number : ℕ) → number ≡ input → answered number (names number) (targets year file prices hour) ≡ answer
  by_number number e = ap (λ (k : ℕ). answered k (names k) (targets year file prices hour)) e

  module _ {outcome : Result (Unit {0}) Refusal} (is : outcome ≡ answered called (names called) tt) where
    before_is : {before : Bool} → before ≡ is_before_amount outcome → before ≡ (ltb 0 called && ltb called 6)
    before_is b = b ∙ ap is_before_amount is ∙ before_by_number called (names called) (call_number year file prices hour (is_wrong_lines owners))

    -- a wild amount, where nothing before it refuses
    pub wild_answer : {before wild : Bool} → before ≡ is_before_amount outcome → wild ≡ is_wild_amount collected → (wild && not before) ≡ true
        → Err WildAmount ≡ answer
    wild_answer {before} {wild} b w test = by_tests before wild b w test
      where
        by_tests : (early late : Bool) → early ≡ is_before_amount outcome → late ≡ is_wild_amount collected → (late && not early) ≡ true
            → Err WildAmount ≡ answer
        by_tests false true b w test =
            by_number 6 (at_amount year file prices collected hour within inside (sym (before_is b)) (sym w))
        by_tests true true b w test = absurd (false≢true test)
        by_tests early false b w test = absurd (false≢true test)

    -- else the input is refused as the call is
    pub same_number : {before wild : Bool} → before ≡ is_before_amount outcome → wild ≡ is_wild_amount collected → (wild && not before) ≡ false
        → called ≡ input
    same_number {before} {wild} b w test = by_tests before wild b w test
      where
        by_tests : (early late : Bool) → early ≡ is_before_amount outcome → late ≡ is_wild_amount collected → (late && not early) ≡ false
            → called ≡ input
        by_tests true late b w test = before_amount year file prices collected hour within inside (sym (before_is b))
        by_tests false true b w test = absurd (false≢true (sym test))
        by_tests false false b w test = past_amount year file prices collected hour within inside (sym (before_is b)) (sym w)

    module _ (same : called ≡ input) where
      pub refused_targets : {refusal : Refusal} → outcome ≡ Err refusal → Err refusal ≡ answer
      refused_targets e =
          let refused = answered_err called (names called) tt (sym is ∙ e) in
          ap Err refused.1 ∙ sym (refused_with called (names called) (targets year file prices hour) refused.0) ∙ by_number called same

      pub given_targets : {done : Unit {0}} {lines : List ℤ} (before : List ℤ) → outcome ≡ Ok done → length before ≡ owners
          → lines ≡ target_lines year file prices hour before → Ok lines ≡ answer
      given_targets before e long written =
          let none = (answered_ok called (names called) tt (sym is ∙ e)).0 in
          ap Ok (written ∙ writes_targets year file prices hour before (ap (target_refusal year file prices hour) long ∙ none)) ∙ by_number 0 (sym none ∙ same)
