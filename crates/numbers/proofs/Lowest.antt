-- The lowest number below a bound that passes a test: it passes, none before it does, and no other number is that.
-- Assumes nothing.
use Prim.Native.Nat.{ℕ, zero, suc, ◌≤◌, ◌<◌}
use mathlib.Core.Path.{◌≡◌, refl, sym, ap, subst, ◌∙◌}
use mathlib.Core.Bool.{Bool, true, false, cond, ◌||◌, false≢true}
use mathlib.Core.Logic.{⊎_elim}
use native.Mathlib.Nat.{le_of_suc-le-suc, le_refl, le-suc, le_trans, not-suc-le-zero, eq-or-lt_of_le}
use native.Mathlib.Omega.{arith}
use Rattle.std.specs.Prelude.{◌+◌, Option, Some, None}
use Rattle.std.specs.Bool.{then_some}
use Rattle.std.specs.Option.{option_or}
use Rattle.numbers.specs.Lists.{any_below, lowest_below, IsLowest}
use Rattle.numbers.proofs.Any.{any_here, any_more}
use Rattle.numbers.proofs.Booleans.{neither_true}

module _ (test : ℕ → Bool) where
  pub lowest_none : (n : ℕ) → any_below test n ≡ false → lowest_below test n ≡ n
  unfolding lowest_below any_below
  lowest_none zero none = refl
  lowest_none (suc n) none = let parts = neither_true (any_below test n) (test n) none in rw (parts.0, parts.1)

  -- it is the only one
  pub lowest_only : (n r : ℕ) → IsLowest test n r → r ≡ lowest_below test n
  unfolding lowest_below
  lowest_only zero r is = absurd (not-suc-le-zero is.inside)
  lowest_only (suc n) r is = ⊎_elim at_end (λ l. earlier l (lowest_only n r)) (eq-or-lt_of_le (le_of_suc-le-suc is.inside))
    where
      at_end : r ≡ n → r ≡ cond (any_below test n) (lowest_below test n) (cond (test n) n (suc n))
      at_end e =
          let none = subst (λ (k : ℕ). any_below test k ≡ false) e is.before in
          let here = subst (λ (k : ℕ). test k ≡ true) e is.here in
          rw (none, here) e

      earlier : (inside : r < n) → (IsLowest test n r → r ≡ lowest_below test n)
          → r ≡ cond (any_below test n) (lowest_below test n) (cond (test n) n (suc n))
      earlier inside only =
          rw (any_here test n r inside is.here) (only (record { inside = inside; here = is.here; before = is.before }))

  -- and where some number passes it is one
  pub lowest_found : (n : ℕ) → any_below test n ≡ true → IsLowest test n (lowest_below test n)
  unfolding any_below lowest_below
  lowest_found zero some = absurd (false≢true some)
  lowest_found (suc n) some = by_test (any_below test n) refl (lowest_found n) some
    where
      by_test : (below : Bool) → any_below test n ≡ below → (any_below test n ≡ true → IsLowest test n (lowest_below test n))
          → (any_below test n || test n) ≡ true
          → IsLowest test (suc n) (cond (any_below test n) (lowest_below test n) (cond (test n) n (suc n)))
      by_test true e found some =
          let is = found e in
          subst (λ (b : Bool). IsLowest test (suc n) (cond b (lowest_below test n) (cond (test n) n (suc n)))) (sym e)
          (record { inside = le_trans is.inside (le-suc n); here = is.here; before = is.before })
      by_test false e found some =
          let here : test n ≡ true = sym (ap (λ (b : Bool). b || test n) e) ∙ some in
          subst (λ (b : Bool). IsLowest test (suc n) (cond b (lowest_below test n) (cond (test n) n (suc n)))) (sym e)
          (subst (λ (b : Bool). IsLowest test (suc n) (cond b n (suc n))) (sym here)
          (record { inside = le_refl (suc n); here = here; before = e }))

  -- whether some number passes, by where the lowest stands
  pub lowest_inside : (n : ℕ) → lowest_below test n < n → any_below test n ≡ true
  lowest_inside n inside = by_test (any_below test n) refl
    where
      by_test : (some : Bool) → any_below test n ≡ some → some ≡ true
      by_test true e = refl
      by_test false e = absurd (omega (arith, lowest_none n e))

  pub lowest_past : (n : ℕ) → n ≤ lowest_below test n → any_below test n ≡ false
  lowest_past n past = by_test (any_below test n) refl
    where
      by_test : (some : Bool) → any_below test n ≡ some → some ≡ false
      by_test true e = absurd (omega (arith, (lowest_found n e).inside))
      by_test false e = refl

  pub lowest_within : (n : ℕ) → lowest_below test n ≤ n
  lowest_within n = by_test (any_below test n) refl
    where
      by_test : (some : Bool) → any_below test n ≡ some → lowest_below test n ≤ n
      by_test true e = omega (arith, (lowest_found n e).inside)
      by_test false e = omega (arith, lowest_none n e)

-- ---- a search that keeps the first number that passed so far

abbrev pub FirstSoFar : (ℕ → Bool) → ℕ → Option ℕ → Type 0
FirstSoFar test n None = any_below test n ≡ false
FirstSoFar test n (Some r) = IsLowest test n r

-- one number more
pub first_next : (test : ℕ → Bool) (n : ℕ) (first : Option ℕ) (here : Bool) → FirstSoFar test n first → test n ≡ here
    → FirstSoFar test (n + 1) (option_or first (then_some here n))
first_next test n (Some r) here is _ = record { inside = omega (arith, is.inside); here = is.here; before = is.before }
first_next test n None true none here = record { inside = omega arith; here = here; before = none }
first_next test n None false none here = any_more test n none here
