-- The lines of an event, owner by owner: what each step of the definitions gives.
-- Assumes nothing.
use Prim.Native.Nat.{ℕ, suc}
use mathlib.Core.Path.{◌≡◌, refl}
use mathlib.Core.List.{List, [], ◌∷◌, ◌++◌}
use lib.ListN.{length, get_or}
use lib.IntN.{ℤ, pos, negsuc}
use Rattle.statement_text.specs.Text.{owner_line, owner_lines, lines_below, event_lines}

module _ (tag number : ℕ) where
  pub event_below : (cents : List ℤ) → event_lines tag number cents ≡ lines_below tag number cents (length cents)
  unfolding event_lines
  event_below cents = refl

  pub below_none : (cents : List ℤ) → lines_below tag number cents 0 ≡ []
  unfolding lines_below
  below_none cents = refl

  pub below_next : (cents : List ℤ) (n : ℕ)
      → lines_below tag number cents (suc n) ≡ lines_below tag number cents n ++ owner_lines tag number n (get_or cents n (pos 0))
  unfolding lines_below
  below_next cents n = refl

  pub no_line : (owner : ℕ) → owner_lines tag number owner (pos 0) ≡ []
  unfolding owner_lines
  no_line owner = refl

  pub credit_line : (owner n : ℕ) → owner_lines tag number owner (pos (suc n)) ≡ owner_line tag number owner (pos (suc n)) ∷ []
  unfolding owner_lines
  credit_line owner n = refl

  pub charge_line : (owner n : ℕ) → owner_lines tag number owner (negsuc n) ≡ owner_line tag number owner (negsuc n) ∷ []
  unfolding owner_lines
  charge_line owner n = refl
