-- A table's rule from one computed test: a test that passes at every entry and its place gives the rule at each entry.
-- Assumes nothing.
use mathlib.Core.Path.{◌≡◌, ◌∙◌, subst, sym}
use mathlib.Core.Bool.{Bool, true, false, ◌&&◌}
use mathlib.Core.List.{List, [], ◌∷◌}
use Prim.Native.Nat.{ℕ, zero, suc, ◌+◌, ◌<◌}
use native.Mathlib.Nat.{add-zero, zero-add, add-suc, suc-add, le_of_suc-le-suc, not-suc-le-zero}
use lib.Dec.{T, eqb, eqb→eq}
use lib.ListN.{length, get_or}

-- each entry equals the rule at its place, the places being counted from the first number given
abbrev pub follows : (ℕ → ℕ) → ℕ → List ℕ → Bool
follows rule place [] = true
follows rule place (entry ∷ entries) = eqb entry (rule place) && follows rule (suc place) entries

and_left : (a b : Bool) → T (a && b) → T a
and_left true b t = tt
and_left false b t = t

and_right : (a b : Bool) → T (a && b) → T b
and_right true b t = t
and_right false b t = absurd t

from : (rule : ℕ → ℕ) (entries : List ℕ) (place : ℕ) → T (follows rule place entries)
    → (k : ℕ) → k < length entries → get_or entries k 0 ≡ rule (place + k)
from rule [] place t k h = absurd (not-suc-le-zero h)
from rule (entry ∷ entries) place t zero h =
    subst (λ (m : ℕ). entry ≡ rule m) (sym (add-zero place))
    (eqb→eq entry (rule place) (and_left (eqb entry (rule place)) (follows rule (suc place) entries) t))
from rule (entry ∷ entries) place t (suc k) h =
    subst (λ (m : ℕ). get_or entries k 0 ≡ rule m) (suc-add place k ∙ sym (add-suc place k))
    (from rule entries (suc place) (and_right (eqb entry (rule place)) (follows rule (suc place) entries) t) k
    (le_of_suc-le-suc h))

-- the rule at an entry, from the test of the whole table
pub table_rule : (rule : ℕ → ℕ) (entries : List ℕ) → T (follows rule 0 entries)
    → (k : ℕ) → k < length entries → get_or entries k 0 ≡ rule k
table_rule rule entries t k h = subst (λ (m : ℕ). get_or entries k 0 ≡ rule m) (zero-add k) (from rule entries 0 t k h)
