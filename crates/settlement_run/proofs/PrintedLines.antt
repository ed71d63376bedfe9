-- What is read from printed lines: from lines in a row, and from the lines of one event.
-- Assumes nothing.
use Prim.Native.Nat.{ℕ, zero, suc, ◌+◌, ◌≤◌, ◌<◌}
use mathlib.Core.Path.{◌≡◌, refl, sym, ap, ◌∙◌}
use mathlib.Core.Bool.{Bool, true, false, cond, ◌&&◌}
use mathlib.Core.Logic.{⊎_elim}
use mathlib.Core.List.{List, [], ◌∷◌, ◌++◌}
use native.Mathlib.Nat.{not-suc-le-zero, le_of_suc-le-suc, eq-or-lt_of_le}
use native.Mathlib.Omega.{arith}
use lib.Dec.{eqb}
use lib.ListN.{length, get_or}
use lib.IntN.{ℤ, pos, negsuc}
use borrow.Author.Tests.{eq-eqb, ne_eqb}
use Rattle.numbers.specs.Signs.{positive, negative}
use Rattle.statement_text.specs.Text.{Line, owner_line, owner_lines, lines_below, event_lines}
use Rattle.statement_text.proofs.EventLines.{event_below, below_none, below_next, no_line, credit_line, charge_line}
use Rattle.settlement_run.specs.PrintedClaim.{credit_in, charge_in, event_credit_in, over_lines, sum_lines}

-- ---- lines in a row

pub sum_none : (part : Line → ℕ) → sum_lines part [] ≡ 0
unfolding over_lines
sum_none part = refl

pub sum_append : (part : Line → ℕ) (lines more : List Line) → sum_lines part (lines ++ more) ≡ sum_lines part lines + sum_lines part more
unfolding over_lines
sum_append part [] more = omega arith
sum_append part (line ∷ rest) more = let h = sum_append part rest more in omega arith

pub sum_one : (part : Line → ℕ) (line : Line) → sum_lines part (line ∷ []) ≡ part line
unfolding over_lines
sum_one part line = omega arith

-- ---- the lines of an event

-- an owner's lines, where a line of 0 cents has nothing
sum_owner : (part : Line → ℕ) (tag number owner : ℕ) (cents : ℤ) → part (owner_line tag number owner (pos 0)) ≡ 0
    → sum_lines part (owner_lines tag number owner cents) ≡ part (owner_line tag number owner cents)
sum_owner part tag number owner (pos zero) none =
    ap (sum_lines part) (no_line tag number owner) ∙ sum_none part ∙ sym none
sum_owner part tag number owner (pos (suc n)) none =
    ap (sum_lines part) (credit_line tag number owner n) ∙ sum_one part (owner_line tag number owner (pos (suc n)))
sum_owner part tag number owner (negsuc n) none =
    ap (sum_lines part) (charge_line tag number owner n) ∙ sum_one part (owner_line tag number owner (negsuc n))

cond_none : (test : Bool) (n : ℕ) → n ≡ 0 → cond test n 0 ≡ 0
cond_none true n none = none
cond_none false n none = refl

-- a part that only one owner's lines have, by their cents
module _ (part : Line → ℕ) (tag number owner : ℕ) (value : ℤ → ℕ) (none : value (pos 0) ≡ 0)
    (is : (who : ℕ) (cents : ℤ) → part (owner_line tag number who cents) ≡ cond (eqb who owner) (value cents) 0) where
  one : (who : ℕ) (cents : ℤ) → sum_lines part (owner_lines tag number who cents) ≡ cond (eqb who owner) (value cents) 0
  one who cents =
      sum_owner part tag number who cents (is who (pos 0) ∙ cond_none (eqb who owner) (value (pos 0)) none) ∙ is who cents

  next : (cents : List ℤ) (n : ℕ)
      → sum_lines part (lines_below tag number cents (suc n))
      ≡ sum_lines part (lines_below tag number cents n) + cond (eqb n owner) (value (get_or cents n (pos 0))) 0
  next cents n =
      ap (sum_lines part) (below_next tag number cents n)
      ∙ sum_append part (lines_below tag number cents n) (owner_lines tag number n (get_or cents n (pos 0)))
      ∙ ap (sum_lines part (lines_below tag number cents n) +◌) (one n (get_or cents n (pos 0)))

  other : (cents : List ℤ) (n : ℕ) → (n ≡ owner → ⊥)
      → sum_lines part (lines_below tag number cents (suc n)) ≡ sum_lines part (lines_below tag number cents n)
  other cents n apart =
      let last = ap (λ (test : Bool). cond test (value (get_or cents n (pos 0))) 0) (ne_eqb n owner apart) in
      omega (arith, next cents n, last)

  before : (cents : List ℤ) (n : ℕ) → n ≤ owner → sum_lines part (lines_below tag number cents n) ≡ 0
  before cents zero most = ap (sum_lines part) (below_none tag number cents) ∙ sum_none part
  before cents (suc n) most = other cents n (λ e. omega arith) ∙ before cents n (omega arith)

  at_owner : (cents : List ℤ) (n : ℕ) → owner ≡ n
      → sum_lines part (lines_below tag number cents (suc n)) ≡ value (get_or cents owner (pos 0))
  at_owner cents n e =
      let last = ap (λ (test : Bool). cond test (value (get_or cents n (pos 0))) 0) (eq-eqb n owner (sym e)) in
      let here = ap (λ (who : ℕ). value (get_or cents who (pos 0))) e in
      omega (arith, next cents n, before cents n (omega arith), last, here)

  after : (cents : List ℤ) (n : ℕ) → owner < n → sum_lines part (lines_below tag number cents n) ≡ value (get_or cents owner (pos 0))
  after cents zero more = absurd (not-suc-le-zero more)
  after cents (suc n) more =
      ⊎_elim (at_owner cents n) (λ less. other cents n (λ e. omega arith) ∙ after cents n less)
      (eq-or-lt_of_le (le_of_suc-le-suc more))

  pub sum_event : (cents : List ℤ) → owner < length cents
      → sum_lines part (event_lines tag number cents) ≡ value (get_or cents owner (pos 0))
  sum_event cents inside = ap (sum_lines part) (event_below tag number cents) ∙ after cents (length cents) inside

module _ (tag number owner : ℕ) (cents : List ℤ) (inside : owner < length cents) where
  pub credits_of_event : sum_lines (credit_in owner) (event_lines tag number cents) ≡ positive (get_or cents owner (pos 0))
  unfolding credit_in
  credits_of_event = sum_event (credit_in owner) tag number owner positive refl (λ who z. refl) cents inside

  pub charges_of_event : sum_lines (charge_in owner) (event_lines tag number cents) ≡ negative (get_or cents owner (pos 0))
  unfolding charge_in
  charges_of_event = sum_event (charge_in owner) tag number owner negative refl (λ who z. refl) cents inside

  -- the credit of one event: this one, or another
  pub own_credits : sum_lines (event_credit_in tag number owner) (event_lines tag number cents) ≡ positive (get_or cents owner (pos 0))
  unfolding event_credit_in
  own_credits =
      sum_event (event_credit_in tag number owner) tag number owner positive refl
      (λ who z.
      ap (λ (test : Bool). cond (test && eqb number number && eqb who owner) (positive z) 0) (eq-eqb tag tag refl)
      ∙ ap (λ (test : Bool). cond (test && eqb who owner) (positive z) 0) (eq-eqb number number refl))
      cents inside

  pub other_credits : (letter event : ℕ) → (eqb tag letter && eqb number event) ≡ false
      → sum_lines (event_credit_in letter event owner) (event_lines tag number cents) ≡ 0
  unfolding event_credit_in
  other_credits letter event apart =
      sum_event (event_credit_in letter event owner) tag number owner (λ _. 0) refl
      (λ who z.
      ap (λ (test : Bool). cond (test && eqb who owner) (positive z) 0) apart ∙ sym (cond_none (eqb who owner) 0 refl))
      cents inside
