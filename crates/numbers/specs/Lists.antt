-- Sums, counts, searches and lists over the numbers below a bound; the sum of a list, and a list with a part written over it.
-- Assumes nothing.
use Rattle.std.specs.Prelude.{ℕ, zero, suc, ◌+◌, ◌<◌, ◌≡◌, Bool, true, false, cond, ◌||◌, List, [], ◌∷◌, ◌++◌, length, take, drop, ℤ, pos, ◌+ℤ◌}

-- the sum of a list of numbers
unfoldable pub total : List ℕ → ℕ
total [] = 0
total (x ∷ xs) = x + total xs

-- the sum of f 0, f 1, .. up to f (n - 1), in whole numbers of either sign
unfoldable pub sum_below : (ℕ → ℤ) → ℕ → ℤ
sum_below f zero = pos 0
sum_below f (suc n) = sum_below f n +ℤ f n

-- how many of the numbers 0 to n - 1 pass the test
unfoldable pub count_below : (ℕ → Bool) → ℕ → ℕ
count_below test zero = 0
count_below test (suc n) = count_below test n + cond (test n) 1 0

-- some number below n passes the test
unfoldable pub any_below : (ℕ → Bool) → ℕ → Bool
any_below test zero = false
any_below test (suc n) = any_below test n || test n

-- the lowest number below n that passes the test, or n if none does
unfoldable pub lowest_below : (ℕ → Bool) → ℕ → ℕ
lowest_below test zero = zero
lowest_below test (suc n) = cond (any_below test n) (lowest_below test n) (cond (test n) n (suc n))

-- r is below n and passes the test, and no number before it does
pub record IsLowest (test : ℕ → Bool) (n r : ℕ) : Type 0 where
  pub inside : r < n
  pub here : test r ≡ true
  pub before : any_below test r ≡ false

-- the list of f 0, f 1, .. up to f (n - 1)
unfoldable pub list_below : {A : Type 0} → (ℕ → A) → ℕ → List A
list_below f zero = []
list_below f (suc n) = list_below f n ++ (f n ∷ [])

-- the list with a part written over it from a place on
unfoldable pub written : List ℕ → ℕ → List ℕ → List ℕ
written before at part = take at before ++ (part ++ drop (at + length part) before)
