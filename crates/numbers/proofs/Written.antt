-- A list with a part written over it: its length, the elements before, in and behind the part, and two parts one behind the other.
-- Assumes nothing.
use Prim.Native.Nat.{ℕ, ◌+◌, ◌-◌, ◌≤◌, ◌<◌}
use mathlib.Core.Bool.{Bool, true, false}
use mathlib.Core.Path.{◌≡◌, refl, sym, ap, ap₂, ◌∙◌}
use mathlib.Core.List.{List, ◌++◌, append_assoc}
use native.Mathlib.Nat.{add_assoc}
use native.Mathlib.Omega.{arith}
use lib.ListN.{get_or, length, take, drop, length-append, length-take, length-drop, get_or-append}
use lib.Dec.{ltb}
use lib.Seq.{take_at, drop_at, drop-drop, get_or-append-add, get_or-take, ext_get_or, length-take-le}
use borrow.Rule.Slice.PartMut.{put_mid}
use Rattle.std.proofs.lemmas.Slice.{put_mid-paste}
use Rattle.std.proofs.Math.Seq.{take-length}
use Rattle.std.proofs.lemmas.List.{get_or-drop}
use borrow.Author.Tests.{ltb-true, ltb-false}
use Rattle.numbers.specs.Lists.{list_below, written}
use Rattle.numbers.proofs.Counts.{get_or_list_below, length_list_below}

-- it keeps its length
pub written_length : (before : List ℕ) (at : ℕ) (part : List ℕ) → at + length part ≤ length before
    → length (written before at part) ≡ length before
unfolding written
written_length before at part room = simp (length-append, length-take, length-drop) (omega arith)

-- what stands up to the end of the part, and behind it
front_length : (before : List ℕ) (at : ℕ) (part : List ℕ) → at ≤ length before
    → length (take at before ++ part) ≡ at + length part
front_length before at part inside = simp (length-append, length-take) (omega arith)

pub front : (before : List ℕ) (at : ℕ) (part : List ℕ) → at ≤ length before
    → take (at + length part) (written before at part) ≡ take at before ++ part
unfolding written
front before at part inside =
    ap (take (at + length part)) (sym (append_assoc (take at before) part (drop (at + length part) before)))
    ∙ take_at (take at before ++ part) (drop (at + length part) before) (at + length part) (front_length before at part inside)

behind : (before : List ℕ) (at : ℕ) (part : List ℕ) → at ≤ length before
    → drop (at + length part) (written before at part) ≡ drop (at + length part) before
unfolding written
behind before at part inside =
    ap (drop (at + length part)) (sym (append_assoc (take at before) part (drop (at + length part) before)))
    ∙ drop_at (take at before ++ part) (drop (at + length part) before) (at + length part) (front_length before at part inside)

-- it reaches to the end of the part
pub written_reaches : (before : List ℕ) (at : ℕ) (part : List ℕ) → at ≤ length before
    → at + length part ≤ length (written before at part)
unfolding written
written_reaches before at part inside = simp (length-append, length-take) (omega arith)

written_is : (before : List ℕ) (at : ℕ) (part : List ℕ)
    → written before at part ≡ take at before ++ (part ++ drop (at + length part) before)
unfolding written
written_is before at part = refl

pub written_then : (before : List ℕ) (at : ℕ) (one two : List ℕ) → at + length one ≤ length before
    → written (written before at one) (at + length one) two ≡ written before at (one ++ two)
written_then before at one two room =
    written_is (written before at one) (at + length one) two
    ∙ ap₂ (λ (l m : List ℕ). l ++ (two ++ m)) (front before at one (omega arith)) rest
    ∙ append_assoc (take at before) one (two ++ drop (at + length (one ++ two)) before)
    ∙ ap (λ (l : List ℕ). take at before ++ l) (sym (append_assoc one two (drop (at + length (one ++ two)) before)))
    ∙ sym (written_is before at (one ++ two))
  where
    rest : drop (at + length one + length two) (written before at one) ≡ drop (at + length (one ++ two)) before
    rest =
        sym (drop-drop (length two) (at + length one) (written before at one))
        ∙ ap (drop (length two)) (behind before at one (omega arith))
        ∙ drop-drop (length two) (at + length one) before
        ∙ ap (λ (n : ℕ). drop n before) (add_assoc at (length one) (length two) ∙ ap (λ (n : ℕ). at + n) (sym (length-append one two)))

-- what is copied over a range of the code's
pub put_mid_written : (before part now : List ℕ) (at k : ℕ) → now ≡ part → length part ≡ k
    → put_mid at k before now ≡ written before at part
unfolding written
put_mid_written before part now at k same size =
    put_mid-paste at k before now part (length part) same size refl
    ∙ ap (λ (l : List ℕ). take at before ++ l ++ drop (at + length part) before) (take-length part)
    ∙ append_assoc (take at before) part (drop (at + length part) before)

pub put_mid_length : (before part now : List ℕ) (at k : ℕ) → now ≡ part → length part ≡ k → at + length part ≤ length before
    → length (put_mid at k before now) ≡ length before
put_mid_length before part now at k same size room =
    ap length (put_mid_written before part now at k same size) ∙ written_length before at part room

-- ---- element by element

module _ (before : List ℕ) (at : ℕ) (part : List ℕ) (inside : at ≤ length before) where
  -- the elements before the part, those of the part, and those behind it
  pub before_part : (place : ℕ) → place < at → get_or (written before at part) place 0 ≡ get_or before place 0
  unfolding written
  before_part place ahead =
      get_or-append (take at before) (part ++ drop (at + length part) before) 0 place (rw length-take (omega arith))
      ∙ get_or-take at before place 0 ahead

  behind_front : (i : ℕ) → get_or (written before at part) (at + i) 0 ≡ get_or (part ++ drop (at + length part) before) i 0
  unfolding written
  behind_front i =
      ap (λ (place : ℕ). get_or (take at before ++ (part ++ drop (at + length part) before)) (place + i) 0) (sym (length-take-le at before inside))
      ∙ get_or-append-add (take at before) (part ++ drop (at + length part) before) i 0

  pub in_part : (i : ℕ) → i < length part → get_or (written before at part) (at + i) 0 ≡ get_or part i 0
  in_part i within = behind_front i ∙ get_or-append part (drop (at + length part) before) 0 i within

  pub behind_part : (i : ℕ) → get_or (written before at part) (at + length part + i) 0 ≡ get_or before (at + length part + i) 0
  behind_part i =
      ap (λ (place : ℕ). get_or (written before at part) place 0) (add_assoc at (length part) i)
      ∙ behind_front (length part + i)
      ∙ get_or-append-add part (drop (at + length part) before) i 0
      ∙ get_or-drop (at + length part) before i 0

-- elements written over themselves
pub written_same : (before : List ℕ) (at n : ℕ) → at + n ≤ length before → written before at (list_below (λ i. get_or before (at + i) 0) n) ≡ before
written_same before at n room =
    ext_get_or 0 (written before at part) before (written_length before at part fits) (λ place _. each place (ltb place at) (ltb place (at + n)) refl refl)
  where
    part : List ℕ
    part = list_below (λ i. get_or before (at + i) 0) n

    long : length part ≡ n
    long = length_list_below _ n

    fits : at + length part ≤ length before
    fits = omega (arith, long)

    within : at ≤ length before
    within = omega arith

    each : (place : ℕ) (ahead up_to : Bool) → ltb place at ≡ ahead → ltb place (at + n) ≡ up_to → get_or (written before at part) place 0 ≡ get_or before place 0
    each place true up_to a _ = before_part before at part within place (ltb-true place at a)
    each place false true a u =
        let here : at + (place - at) ≡ place = omega (arith, ltb-false place at a) in
        ap (λ (p : ℕ). get_or (written before at part) p 0) (sym here)
        ∙ in_part before at part within (place - at) (omega (arith, long, ltb-false place at a, ltb-true place (at + n) u))
        ∙ get_or_list_below (λ i. get_or before (at + i) 0) n 0 (place - at) (omega (arith, ltb-false place at a, ltb-true place (at + n) u))
        ∙ ap (λ (p : ℕ). get_or before p 0) here
    each place false false a u =
        let here : at + length part + (place - (at + n)) ≡ place = omega (arith, long, ltb-false place (at + n) u) in
        ap (λ (p : ℕ). get_or (written before at part) p 0) (sym here)
        ∙ behind_part before at part within (place - (at + n))
        ∙ ap (λ (p : ℕ). get_or before p 0) here
