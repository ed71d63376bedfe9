-- Counts, lists and sums over the numbers below a bound: their lengths, elements and orders, and the rank theorem.
-- Assumes nothing.
use Prim.Native.Nat.{ℕ, zero, suc, ◌+◌, ◌-◌, ◌*◌, ◌≤◌, ◌<◌, min}
use mathlib.Core.Bool.{Bool, true, false, cond, not, false≢true}
use mathlib.Core.Logic.{⊎_elim}
use mathlib.Core.List.{List, [], ◌∷◌, ◌++◌, append-nil, append_assoc}
use mathlib.Core.Path.{◌≡◌, refl, sym, ap, ap₂, subst, ◌∙◌}
use native.Mathlib.Nat.{not-suc-le-zero, le_of_suc-le-suc, le_of_eq, eq-or-lt_of_le, mul-zero, add-zero, add-suc}
use native.Mathlib.Numerals.{add-one}
use native.Mathlib.Decide.{ℕ_discrete}
use native.Mathlib.Omega.{arith}
use lib.Dec.{ltb}
use lib.ListN.{length, get_or, take, drop, set, length-append, get_or-append, get_or-eq_default}
use lib.Seq.{get_or_at, get_or-take, take_all, take-suc-set, drop-cons, ext_get_or}
use borrow.Author.Tests.{ltb-true, ltb-false, lt-ltb}
use Rattle.std.specs.Array.{IsFromFnResult, IsFromFnResultFrom}
use denote.Param.Members.{Mut, Called}
use Rattle.numbers.specs.Lists.{total, count_below, list_below}

-- a property of every number below n + 1, from that of every number below n and of n
below_suc : (P : ℕ → Type 0) (n : ℕ) → ((i : ℕ) → i < n → P i) → P n → (i : ℕ) → i < suc n → P i
below_suc P n all here i l = ⊎_elim (λ e. subst P (sym e) here) (λ lt. all i lt) (eq-or-lt_of_le (le_of_suc-le-suc l))

-- two comparisons that follow from one another are the same test
same_test : (a b c d : ℕ) → (a < b → c < d) → (c < d → a < b) → ltb a b ≡ ltb c d
same_test a b c d there back = go (ltb a b) (ltb c d) refl refl
  where
    go : (s t : Bool) → ltb a b ≡ s → ltb c d ≡ t → s ≡ t
    go true true p q = refl
    go false false p q = refl
    go true false p q = sym (lt-ltb c d (there (ltb-true a b p))) ∙ q
    go false true p q = sym p ∙ lt-ltb a b (back (ltb-true c d q))

-- what a test adds to a count, beside what a test adds that passes wherever the first does
pub one_if_mono : (s t : Bool) → (s ≡ true → t ≡ true) → cond {A = ℕ} s 1 0 ≤ cond t 1 0
one_if_mono true true h = omega arith
one_if_mono true false h = absurd (false≢true (h refl))
one_if_mono false true h = omega arith
one_if_mono false false h = omega arith

-- the count below n + 1 is the count below n, and one more if n passes
pub count_suc : (test : ℕ → Bool) (n : ℕ) → count_below test (suc n) ≡ count_below test n + cond (test n) 1 0
unfolding count_below
count_suc test n = refl

-- no more numbers pass than there are
pub count_le : (test : ℕ → Bool) (n : ℕ) → count_below test n ≤ n
unfolding count_below
count_le test zero = omega arith
count_le test (suc n) = let h = count_le test n in let k = one_if_mono (test n) true (λ _. refl) in omega arith

-- tests that agree count the same
pub count_ext : (f g : ℕ → Bool) (n : ℕ) → ((i : ℕ) → i < n → f i ≡ g i) → count_below f n ≡ count_below g n
unfolding count_below
count_ext f g zero h = refl
count_ext f g (suc n) h =
    ap₂ (λ (a : ℕ) (t : Bool). a + cond t 1 0) (count_ext f g n (λ i l. h i (omega arith))) (h n (omega arith))

-- a test that passes wherever another does counts no less
pub count_mono : (f g : ℕ → Bool) (n : ℕ) → ((i : ℕ) → i < n → f i ≡ true → g i ≡ true) → count_below f n ≤ count_below g n
unfolding count_below
count_mono f g zero h = omega arith
count_mono f g (suc n) h =
    let a = count_mono f g n (λ i l. h i (omega arith)) in let b = one_if_mono (f n) (g n) (h n (omega arith)) in omega arith

-- and more, where one more number passes
pub count_more : (f g : ℕ → Bool) (n : ℕ) → ((i : ℕ) → i < n → f i ≡ true → g i ≡ true) → (k : ℕ) → k < n → f k ≡ false
    → g k ≡ true → count_below f n < count_below g n
unfolding count_below
count_more f g zero h k l no_f yes_g = absurd (not-suc-le-zero l)
count_more f g (suc n) h k l no_f yes_g =
    ⊎_elim at_n (λ lt. below_n (count_more f g n (λ i m. h i (omega arith)) k lt no_f yes_g)) (eq-or-lt_of_le (le_of_suc-le-suc l))
  where
    at_n : k ≡ n → count_below f n + cond (f n) 1 0 < count_below g n + cond (g n) 1 0
    at_n e =
        let a = count_mono f g n (λ i m. h i (omega arith)) in
        let fn : cond {A = ℕ} (f n) 1 0 ≡ 0 = ap (λ (t : Bool). cond t 1 0) (ap f (sym e) ∙ no_f) in
        let gn : cond {A = ℕ} (g n) 1 0 ≡ 1 = ap (λ (t : Bool). cond t 1 0) (ap g (sym e) ∙ yes_g) in
        omega arith

    below_n : count_below f n < count_below g n → count_below f n + cond (f n) 1 0 < count_below g n + cond (g n) 1 0
    below_n less = let b = one_if_mono (f n) (g n) (h n (omega arith)) in omega arith

-- the list has a place for each number below n
pub length_list_below : {A : Type 0} (f : ℕ → A) (n : ℕ) → length (list_below f n) ≡ n
unfolding list_below
length_list_below f zero = refl
length_list_below f (suc n) = let h = length_list_below f n in simp length-append (omega arith)

-- its element at i is f i
pub get_or_list_below : {A : Type 0} (f : ℕ → A) (n : ℕ) (d : A) (i : ℕ) → i < n → get_or (list_below f n) i d ≡ f i
unfolding list_below
get_or_list_below f zero d i l = absurd (not-suc-le-zero l)
get_or_list_below f (suc n) d i l =
    below_suc
    (λ (k : ℕ). get_or (list_below f n ++ (f n ∷ [])) k d ≡ f k)
    n
    (λ k lt. get_or-append (list_below f n) (f n ∷ []) d k (rw length_list_below lt) ∙ get_or_list_below f n d k lt)
    (get_or_at (list_below f n) (f n) [] d n (length_list_below f n))
    i
    l

-- and the default beyond it
pub get_or_beyond : {A : Type 0} (f : ℕ → A) (n : ℕ) (d : A) (i : ℕ) → n ≤ i → get_or (list_below f n) i d ≡ d
get_or_beyond f n d i l = get_or-eq_default (list_below f n) d (rw length_list_below l)

-- a list is the list of its elements
pub list_below_get_or : {A : Type 0} (xs : List A) (d : A) → list_below (λ i. get_or xs i d) (length xs) ≡ xs
list_below_get_or xs d =
    ext_get_or
    d
    (list_below (λ i. get_or xs i d) (length xs))
    xs
    (length_list_below _ _)
    (λ i l. get_or_list_below (λ i. get_or xs i d) (length xs) d i (rw length_list_below at l))

-- of any list by the number of its elements
pub list_of_elements : {A : Type 0} (xs : List A) (d : A) {n : ℕ} → length xs ≡ n → list_below (λ i. get_or xs i d) n ≡ xs
list_of_elements xs d all = ap (list_below (λ i. get_or xs i d)) (sym all) ∙ list_below_get_or xs d

-- the list of m + n elements is that of the first m, then that of the n behind them
pub list_below_append : {A : Type 0} (f : ℕ → A) (m n : ℕ) → list_below f (m + n) ≡ list_below f m ++ list_below (λ i. f (m + i)) n
unfolding list_below
list_below_append f m zero = ap (list_below f) (add-zero m) ∙ sym (append-nil (list_below f m))
list_below_append {A} f m (suc n) =
    ap (list_below f) (add-suc m n)
    ∙ ap (λ (l : List A). l ++ (f (m + n) ∷ [])) (list_below_append f m n)
    ∙ append_assoc (list_below f m) (list_below (λ i. f (m + i)) n) (f (m + n) ∷ [])

-- functions that agree below n give one list
pub list_below_ext : {A : Type 0} (f g : ℕ → A) (n : ℕ) → ((i : ℕ) → i < n → f i ≡ g i) → list_below f n ≡ list_below g n
unfolding list_below
list_below_ext f g zero h = refl
list_below_ext {A} f g (suc n) h =
    ap₂ (λ (l : List A) (a : A). l ++ (a ∷ [])) (list_below_ext f g n (λ i l. h i (omega arith))) (h n (omega arith))

-- a list filled from the front by f is so at each place passed
pub get_or_filled : {A : Type 0} (f : ℕ → A) (xs : List A) (n : ℕ) (d : A) → take n xs ≡ list_below f n → (i : ℕ) → i < n
    → get_or xs i d ≡ f i
get_or_filled {A} f xs n d e i l =
    sym (get_or-take n xs i d l) ∙ ap (λ (ys : List A). get_or ys i d) e ∙ get_or_list_below f n d i l

-- and one place more, after a store there
pub filled_more : {A : Type 0} (f : ℕ → A) (xs : List A) (i : ℕ) (a : A) → i < length xs → a ≡ f i → take i xs ≡ list_below f i
    → take (i + 1) (set xs i a) ≡ list_below f (i + 1)
unfolding list_below
filled_more f xs i a l here e = rw (add-one, take-suc-set, e, here)

-- filled to its end
pub filled_all : {A : Type 0} (f : ℕ → A) (xs : List A) (i n : ℕ) → length xs ≤ i → i ≡ n → take i xs ≡ list_below f i
    → xs ≡ list_below f n
filled_all f xs i n l at_end e = sym (take_all i xs l) ∙ e ∙ ap (λ (m : ℕ). list_below f m) at_end

-- an array made by a function of each index, which keeps what it has captured, is the list of its values
abbrev pub GivesAt : {F A : Type 0} → Mut F (ℕ × Unit {0}) A → F → (ℕ → A) → ℕ → Type 0
GivesAt {F} {A} g f value i = (q : F) (x : A) → Called g f (i, tt) x q → (q ≡ f) × (x ≡ value i)

from_each : {F A : Type 0} (g : Mut F (ℕ × Unit {0}) A) (f : F) (d : A) (xs : List A) (value : ℕ → A) (n i : ℕ) (p : F) → p ≡ f
    → ((k : ℕ) → i ≤ k → k < i + n → GivesAt g f value k) → IsFromFnResultFrom g p xs i n
    → (k : ℕ) → i ≤ k → k < i + n → get_or xs k d ≡ value k
from_each g f d xs value zero i p is gives made k from below = absurd (omega arith)
from_each {F} g f d xs value (suc n) i p is gives made k from below =
    by_here (ℕ_discrete k i) (from_each g f d xs value n (i + 1) made.0 here.0 (λ m above under. gives m (omega arith) (omega arith)) made.4 k)
  where
    here : (made.0 ≡ f) × (made.1 ≡ value i)
    here = gives i (omega arith) (omega arith) made.0 made.1 (subst (λ (s : F). Called g s (i, tt) made.1 made.0) is made.3)

    by_here : Dec (k ≡ i) → (i + 1 ≤ k → k < i + 1 + n → get_or xs k d ≡ value k) → get_or xs k d ≡ value k
    by_here (yes e) rest = ap (λ (m : ℕ). get_or xs m d) e ∙ made.2.1 d ∙ here.1 ∙ ap value (sym e)
    by_here (no other) rest = rest (omega arith) (omega arith)

pub list_from_fn : {F A : Type 0} {g : Mut F (ℕ × Unit {0}) A} {f : F} {xs : List A} {n : ℕ} (value : ℕ → A)
    → IsFromFnResult g f xs n → ((i : ℕ) → i < n → GivesAt g f value i) → xs ≡ list_below value n
list_from_fn {g = g} {f = f} {xs = xs} {n = n} value made gives =
    sym (list_below_get_or xs (value 0))
    ∙ ap (list_below (λ i. get_or xs i (value 0))) made.long
    ∙ list_below_ext _ _ n (λ i inside. from_each g f (value 0) xs value n 0 f refl (λ k from below. gives k (omega arith)) made.each i (omega arith) (omega arith))

-- the sum of two lists in a row
pub total_append : (xs ys : List ℕ) → total (xs ++ ys) ≡ total xs + total ys
unfolding total
total_append [] ys = omega arith
total_append (x ∷ xs) ys = let h = total_append xs ys in omega arith

-- what is left of a sum from place i on, by its first number
pub total_drop : (xs : List ℕ) (i : ℕ) → i < length xs → total (drop i xs) ≡ get_or xs i 0 + total (drop (i + 1) xs)
unfolding total
total_drop xs i l = rw (add-one, drop-cons xs i 0)

-- the sum below n + 1 is the sum below n, and f n
pub total_suc : (f : ℕ → ℕ) (n : ℕ) → total (list_below f (suc n)) ≡ total (list_below f n) + f n
unfolding list_below total
total_suc f n = let h = total_append (list_below f n) (f n ∷ []) in omega arith

-- and the same of the code's n + 1
pub total_next : (f : ℕ → ℕ) (n : ℕ) → total (list_below f (n + 1)) ≡ total (list_below f n) + f n
total_next f n = ap (λ (m : ℕ). total (list_below f m)) (add-one n) ∙ total_suc f n

-- a longer sum is no less
pub total_longer : (f : ℕ → ℕ) (m n : ℕ) → m ≤ n → total (list_below f m) ≤ total (list_below f n)
total_longer f m zero l = let e : m ≡ 0 = omega arith in le_of_eq (ap (λ (k : ℕ). total (list_below f k)) e)
total_longer f m (suc n) l =
    ⊎_elim
    (λ e. le_of_eq (ap (λ (k : ℕ). total (list_below f k)) e))
    (λ lt. let h = total_longer f m n (le_of_suc-le-suc lt) in omega (arith, total_suc f n))
    (eq-or-lt_of_le l)

-- no number of a list is above its sum
pub get_or_le_total : (xs : List ℕ) (i : ℕ) → get_or xs i 0 ≤ total xs
unfolding total
get_or_le_total [] i = omega arith
get_or_le_total (x ∷ xs) zero = omega arith
get_or_le_total (x ∷ xs) (suc i) = let h = get_or_le_total xs i in omega arith

-- the sum below n of two functions
pub total_add : (f g : ℕ → ℕ) (n : ℕ) → total (list_below (λ i. f i + g i) n) ≡ total (list_below f n) + total (list_below g n)
total_add f g zero = unfold list_below total in refl
total_add f g (suc n) =
    let h = total_add f g n in omega (arith, total_suc f n, total_suc g n, total_suc (λ i. f i + g i) n)

-- a factor comes out of the sum
pub total_scale : (k : ℕ) (f : ℕ → ℕ) (n : ℕ) → total (list_below (λ i. k * f i) n) ≡ k * total (list_below f n)
total_scale k f zero = unfold list_below total in sym (mul-zero k)
total_scale k f (suc n) =
    let h = total_scale k f n in
    let last = ap (λ (s : ℕ). k * s) (total_suc f n) in
    omega (arith, total_suc (λ i. k * f i) n)

-- no element is larger: no more in all
pub total_mono : (f g : ℕ → ℕ) (n : ℕ) → ((i : ℕ) → i < n → f i ≤ g i) → total (list_below f n) ≤ total (list_below g n)
total_mono f g zero h = unfold list_below total in omega arith
total_mono f g (suc n) h =
    let a = total_mono f g n (λ i l. h i (omega arith)) in
    let b = h n (omega arith) in
    omega (arith, total_suc f n, total_suc g n)

-- a count is the sum of a 1 for each number that passes
pub total_count : (test : ℕ → Bool) (n : ℕ) → total (list_below (λ i. cond (test i) 1 0) n) ≡ count_below test n
unfolding count_below
total_count test zero = unfold list_below total in refl
total_count test (suc n) = let h = total_count test n in omega (arith, total_suc (λ i. cond (test i) 1 0) n)

-- numbers of at most m each come to at most m for each that is above 0
pub total_le_count : (f : ℕ → ℕ) (m n : ℕ) → ((i : ℕ) → i < n → f i ≤ m)
    → total (list_below f n) ≤ m * count_below (λ i. ltb 0 (f i)) n
total_le_count f m n small =
    let each = total_mono f (λ i. m * cond (ltb 0 (f i)) 1 0) n (λ i l. go (f i) (small i l) (ltb 0 (f i)) refl) in
    rw (← total_count (λ i. ltb 0 (f i)) n, ← total_scale m (λ i. cond (ltb 0 (f i)) 1 0) n) each
  where
    go : (x : ℕ) → x ≤ m → (t : Bool) → ltb 0 x ≡ t → x ≤ m * cond t 1 0
    go x le true e = omega arith
    go x le false e = omega (arith, ltb-false 0 x e)

-- the rank theorem: `ahead i j` says that j stands before i, and of two different owners just one stands before the other
module _ (ahead : ℕ → ℕ → Bool) (irreflexive : (i : ℕ) → ahead i i ≡ false) (transitive : (i j k : ℕ) → ahead i j ≡ true → ahead j k ≡ true → ahead i k ≡ true) (one_way : (i j : ℕ) → (i ≡ j → ⊥) → ahead i j ≡ not (ahead j i)) where
  -- with one more owner n: whom n is ahead of has no fewer ahead than n has, and whom n is behind has fewer
  behind : (n i : ℕ) → ahead i n ≡ true → count_below (ahead n) n ≤ count_below (ahead i) n
  behind n i e = count_mono (ahead n) (ahead i) n (λ j l h. transitive i n j e h)

  before : (n i : ℕ) → i < n → ahead i n ≡ false → count_below (ahead i) n < count_below (ahead n) n
  before n i l e =
      let there : ahead n i ≡ true = one_way n i (omega arith) ∙ ap not e in
      count_more (ahead i) (ahead n) n (λ j m h. transitive n i j there h) i l (irreflexive i) there

  -- so where n takes a cent, the others share one cent less
  taken : (n E i : ℕ) → count_below (ahead n) n < E → i < n → (t : Bool) → ahead i n ≡ t
      → ltb (count_below (ahead i) n + cond t 1 0) E ≡ ltb (count_below (ahead i) n) (E - 1)
  taken n E i h l true e =
      let b = behind n i e in
      let c = count_below (ahead i) n in
      same_test (c + 1) E c (E - 1) (λ m. omega arith) (λ m. omega arith)
  taken n E i h l false e =
      let b = before n i l e in
      let c = count_below (ahead i) n in
      same_test (c + 0) E c (E - 1) (λ m. omega arith) (λ m. omega arith)

  -- and where it takes none, they share all
  passed : (n E i : ℕ) → E ≤ count_below (ahead n) n → i < n → (t : Bool) → ahead i n ≡ t
      → ltb (count_below (ahead i) n + cond t 1 0) E ≡ ltb (count_below (ahead i) n) E
  passed n E i h l true e =
      let b = behind n i e in
      let c = count_below (ahead i) n in
      same_test (c + 1) E c E (λ m. omega arith) (λ m. omega arith)
  passed n E i h l false e =
      let b = before n i l e in
      let c = count_below (ahead i) n in
      same_test (c + 0) E c E (λ m. omega arith) (λ m. omega arith)

  -- the last owner's own place
  own : (n : ℕ) → count_below (ahead n) (suc n) ≡ count_below (ahead n) n
  own n =
      let e : cond {A = ℕ} (ahead n n) 1 0 ≡ 0 = ap (λ (t : Bool). cond t 1 0) (irreflexive n) in
      omega (arith, count_suc (ahead n) n)

  rank_step : (n E : ℕ) → ((C : ℕ) → count_below (λ i. ltb (count_below (ahead i) n) C) n ≡ min C n) → (t : Bool)
      → ltb (count_below (ahead n) (suc n)) E ≡ t
      → count_below (λ i. ltb (count_below (ahead i) (suc n)) E) n + cond t 1 0 ≡ min E (suc n)
  rank_step n E fewer true e =
      let h : count_below (ahead n) n < E = omega (arith, ltb-true (count_below (ahead n) (suc n)) E e, own n) in
      let same =
      count_ext
      (λ i. ltb (count_below (ahead i) (suc n)) E)
      (λ i. ltb (count_below (ahead i) n) (E - 1))
      n
      (λ i l. ap (λ (c : ℕ). ltb c E) (count_suc (ahead i) n) ∙ taken n E i h l (ahead i n) refl) in
      omega (arith, fewer (E - 1))
  rank_step n E fewer false e =
      let h : E ≤ count_below (ahead n) n = omega (arith, ltb-false (count_below (ahead n) (suc n)) E e, own n) in
      let same =
      count_ext
      (λ i. ltb (count_below (ahead i) (suc n)) E)
      (λ i. ltb (count_below (ahead i) n) E)
      n
      (λ i l. ap (λ (c : ℕ). ltb c E) (count_suc (ahead i) n) ∙ passed n E i h l (ahead i n) refl) in
      omega (arith, fewer E, count_le (ahead n) n)

  -- of n owners, as many have fewer than E ahead of them as there are cents, or owners
  pub rank : (n E : ℕ) → count_below (λ i. ltb (count_below (ahead i) n) E) n ≡ min E n
  rank zero E = unfold count_below in omega arith
  rank (suc n) E = count_suc (λ i. ltb (count_below (ahead i) (suc n)) E) n ∙ rank_step n E (rank n) (ltb (count_below (ahead n) (suc n)) E) refl
