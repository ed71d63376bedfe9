-- Who stands ahead for an odd cent, by a number for each owner: the larger number, then the lower owner. A strict and total order.
-- Assumes nothing.
use Prim.Native.Nat.{ℕ, ◌+◌, ◌≤◌, ◌<◌}
use mathlib.Core.Bool.{Bool, true, false, cond, not}
use mathlib.Core.List.{List}
use mathlib.Core.Logic.{⊎_elim}
use mathlib.Core.Path.{◌≡◌, refl, ap, ◌∙◌}
use native.Mathlib.Numerals.{add-one}
use native.Mathlib.Omega.{arith}
use lib.Dec.{ltb}
use lib.ListN.{length, get_or}
use Rattle.std.specs.Int.{from_bool}
use Rattle.std.proofs.lemmas.Bool.{cases_lt}
use Rattle.std.proofs.lemmas.Bool.Decides.{nat_tests}
use Rattle.numbers.specs.Lists.{count_below}
use Rattle.numbers.proofs.Counts.{count_ext, count_le, count_suc}
use Rattle.split.specs.InnerContracts.{ahead_by, place_of}
use Rattle.split.specs.Split.{stands_ahead}

module _ (x i y j : ℕ) where
  pub ahead_larger : x < y → stands_ahead x i y j ≡ true
  ahead_larger h = grind (arith, nat_tests)

  pub ahead_tie : x ≡ y → stands_ahead x i y j ≡ ltb j i
  ahead_tie e = grind (arith, nat_tests)

pub ahead_irreflexive : (r : ℕ → ℕ) (i : ℕ) → ahead_by r i i ≡ false
ahead_irreflexive r i = grind (arith, nat_tests)

pub ahead_transitive : (r : ℕ → ℕ) (i j k : ℕ) → ahead_by r i j ≡ true → ahead_by r j k ≡ true → ahead_by r i k ≡ true
ahead_transitive r i j k s t = grind (arith, nat_tests)

pub ahead_one_way : (r : ℕ → ℕ) (i j : ℕ) → (i ≡ j → ⊥) → ahead_by r i j ≡ not (ahead_by r j i)
ahead_one_way r i j apart = grind (arith, nat_tests)

-- the place of an owner, where the remainders of those before it are raised by one and no others: each that is now larger stands ahead
pub place_raised : (before now : List ℕ) (i : ℕ) → length now ≡ length before
    → ((k : ℕ) → k < i → get_or now k 0 ≡ get_or before k 0 + 1) → ((k : ℕ) → i ≤ k → get_or now k 0 ≡ get_or before k 0)
    → count_below (λ k. ltb (get_or now i 0) (get_or now k 0)) (length now) ≡ place_of before i
unfolding place_of
place_raised before now i as_many raised not_yet =
    ap (λ (n : ℕ). count_below (λ k. ltb (get_or now i 0) (get_or now k 0)) n) as_many
    ∙ count_ext _ _ (length before) (λ k l. ⊎_elim (passed k) (to_come k) (cases_lt k i))
  where
    passed : (k : ℕ) → k < i → ltb (get_or now i 0) (get_or now k 0) ≡ stands_ahead (get_or before i 0) i (get_or before k 0) k
    passed k l = let r = raised k l in let own = not_yet i (omega arith) in grind (arith, nat_tests)

    to_come : (k : ℕ) → i ≤ k → ltb (get_or now i 0) (get_or now k 0) ≡ stands_ahead (get_or before i 0) i (get_or before k 0) k
    to_come k l = let r = not_yet k l in let own = not_yet i (omega arith) in grind (arith, nat_tests)

-- what a test adds to a count
pub one_from_test : (test : Bool) → from_bool test ≡ cond test 1 0
one_from_test true = refl
one_from_test false = refl

-- one number more in a count, as the code adds it
pub counted_next : (test : ℕ → Bool) (n : ℕ) → count_below test (n + 1) ≡ count_below test n + from_bool (test n)
counted_next test n = rw (add-one n, count_suc test n, one_from_test (test n))

pub ruleset counting_ahead = (counted_next, count_le)
