-- Whether some number below a bound passes a test.
-- Assumes nothing.
use Prim.Native.Nat.{ℕ, zero, suc, ◌+◌, ◌<◌, ◌≤◌}
use mathlib.Core.Path.{◌≡◌, refl, sym, ap, ap₂, ◌∙◌}
use mathlib.Core.Bool.{Bool, true, false, not, ◌&&◌, ◌||◌, or-true, false≢true}
use mathlib.Core.Logic.{⊎_elim}
use native.Mathlib.Nat.{le_of_suc-le-suc, not-suc-le-zero, eq-or-lt_of_le}
use native.Mathlib.Numerals.{add-one}
use native.Mathlib.Omega.{arith}
use Rattle.numbers.specs.Lists.{any_below}

module _ (test : ℕ → Bool) where
  pub any_none : any_below test 0 ≡ false
  unfolding any_below
  any_none = refl

  -- one number more is tested
  pub any_next : (n : ℕ) → any_below test (n + 1) ≡ (any_below test n || test n)
  unfolding any_below
  any_next n = rw (add-one n)

  -- none below n passes, and n does not: none below n + 1 does
  pub any_more : (n : ℕ) → any_below test n ≡ false → test n ≡ false → any_below test (n + 1) ≡ false
  any_more n below here = any_next n ∙ ap₂ (λ (a b : Bool). a || b) below here

  -- a number below n passes
  pub any_here : (n k : ℕ) → k < n → test k ≡ true → any_below test n ≡ true
  unfolding any_below
  any_here zero k inside passes = absurd (not-suc-le-zero inside)
  any_here (suc n) k inside passes =
      ⊎_elim
      (λ (e : k ≡ n). ap (λ (b : Bool). any_below test n || b) (ap test (sym e) ∙ passes) ∙ or-true (any_below test n))
      (λ (l : k < n). ap (λ (b : Bool). b || test n) (any_here n k l passes))
      (eq-or-lt_of_le (le_of_suc-le-suc inside))

  -- none below n passes, so k does not
  pub any_miss : (n k : ℕ) → any_below test n ≡ false → k < n → test k ≡ false
  any_miss n k none inside = by_test (test k) refl
    where
      by_test : (b : Bool) → test k ≡ b → test k ≡ false
      by_test true passes = passes ∙ sym (any_here n k inside passes) ∙ none
      by_test false fails = fails

  -- no number below n passes
  pub any_absent : (n : ℕ) → ((k : ℕ) → k < n → test k ≡ false) → any_below test n ≡ false
  unfolding any_below
  any_absent zero fails = refl
  any_absent (suc n) fails = ap₂ (λ (a b : Bool). a || b) (any_absent n (λ k l. fails k (omega arith))) (fails n (omega arith))

  -- none below n passes and n does not, asked as one test
  pub none_next : (n : ℕ) {before here : Bool} → before ≡ not (any_below test n) → here ≡ not (test n) → (before && here) ≡ not (any_below test (n + 1))
  none_next n none fails = ap₂ (λ (a b : Bool). a && b) none fails ∙ apart (any_below test n) (test n) ∙ sym (ap not (any_next n))
    where
      apart : (a b : Bool) → (not a && not b) ≡ not (a || b)
      apart true b = refl
      apart false b = refl

-- what passes one test passes another, so that some number of a longer range passes that
pub any_other : (one two : ℕ → Bool) (m n : ℕ) → m ≤ n → ((k : ℕ) → k < m → one k ≡ true → two k ≡ true) → any_below one m ≡ true → any_below two n ≡ true
any_other one two m n more passes some = by_test (any_below two n) refl
  where
    by_test : (b : Bool) → any_below two n ≡ b → any_below two n ≡ true
    by_test true is = is
    by_test false none = absurd (false≢true (sym (any_absent one m (λ k inside. fails k inside (one k) refl)) ∙ some))
      where
        fails : (k : ℕ) → k < m → (b : Bool) → one k ≡ b → one k ≡ false
        fails k inside true here = absurd (false≢true (sym (any_miss two n k none (omega (arith, more, inside))) ∙ passes k inside here))
        fails k inside false here = here
