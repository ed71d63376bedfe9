-- A right given in words: values that its fields cannot hold, made the largest that they can, leave it as bad as it is.
-- Assumes nothing.
use Prim.Native.Nat.{ℕ, min}
use mathlib.Core.Path.{◌≡◌, refl, sym, ap, ◌∙◌}
use mathlib.Core.Bool.{Bool, true, false}
use mathlib.Core.List.{List}
use native.Mathlib.Omega.{arith}
use Rattle.calendar.specs.Almanac.{days_in_year}
use Rattle.calendar.proofs.AlmanacLaws.{days_most}
use Rattle.rights.specs.declared.Right.{Right}
use Rattle.rights.specs.Layout.{is_good, record_refusal}
use Rattle.rights.specs.Writing.{file_after}
use Rattle.rights.proofs.Good.{Small, good_small}
use Rattle.rights.proofs.Writing.{refused_alike, left_alike}
use Rattle.pupcopper.specs.InnerContracts.{held}

module _ (right : Right) where
  -- small values are held as they are, and no others are held as small ones
  small_held : Small right → held right ≡ right
  small_held small =
      λ i.
      record {
        owner = let e : min right.owner 65_535 ≡ right.owner = omega (arith, small.owner) in e i;
        source = let e : min right.source 65_535 ≡ right.source = omega (arith, small.source) in e i;
        sink = let e : min right.sink 65_535 ≡ right.sink = omega (arith, small.sink) in e i;
        kind = let e : min right.kind 255 ≡ right.kind = omega (arith, small.kind) in e i;
        class = let e : min right.class 255 ≡ right.class = omega (arith, small.class) in e i;
        size = let e : min right.size 4_294_967_295 ≡ right.size = omega (arith, small.size) in e i;
        first = let e : min right.first 65_535 ≡ right.first = omega (arith, small.first) in e i;
        last = let e : min right.last 65_535 ≡ right.last = omega (arith, small.last) in e i;
      }

  held_small : Small (held right) → Small right
  held_small small =
      record {
        owner = omega (arith, small.owner);
        source = omega (arith, small.source);
        sink = omega (arith, small.sink);
        kind = omega (arith, small.kind);
        class = omega (arith, small.class);
        size = omega (arith, small.size);
        first = omega (arith, small.first);
        last = omega (arith, small.last);
      }

module _ (year : ℕ) (right : Right) where
  abbrev is_fine : Right → Bool
  is_fine = is_good (days_in_year year)

  good_held : is_fine right ≡ true → held right ≡ right
  good_held good = small_held right (good_small (days_in_year year) right good (days_most year))

  held_good : is_fine (held right) ≡ is_fine right
  held_good = by_tests (is_fine right) (is_fine (held right)) refl refl
    where
      by_tests : (one two : Bool) → is_fine right ≡ one → is_fine (held right) ≡ two → is_fine (held right) ≡ is_fine right
      by_tests true two g _ = ap is_fine (good_held g)
      by_tests false true _ h =
          ap is_fine (small_held right (held_small right (good_small (days_in_year year) (held right) h (days_most year))))
      by_tests false false g h = h ∙ sym g

  -- so it is written alike
  module _ (file : List ℕ) (number : ℕ) where
    pub held_refusal : record_refusal year file number (held right) ≡ record_refusal year file number right
    held_refusal = refused_alike year file number (held right) right held_good

    pub held_file : file_after year file number (held right) ≡ file_after year file number right
    held_file = left_alike year file number (held right) right held_good good_held
