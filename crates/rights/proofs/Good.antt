-- What a good right's fields are, read off the joined test.
-- Assumes nothing.
use Prim.Native.Nat.{ℕ, ◌^◌, ◌≤◌, ◌<◌}
use mathlib.Core.Path.{◌≡◌, refl, sym, ap, ap₂, ◌∙◌}
use mathlib.Core.Bool.{Bool, true, false, not, ◌&&◌}
use native.Mathlib.Omega.{arith}
use lib.Dec.{leb, ltb, eqb}
use borrow.Author.Tests.{leb-true, leb-false, le-leb, lt-leb, ltb-true, ltb-false}
use Rattle.std.specs.Int.Bits.{bit_or}
use Rattle.numbers.specs.Limits.{owners, nodes}
use Rattle.numbers.specs.Words.{part_of}
use Rattle.numbers.proofs.Bits.{join_below, join_part}
use Rattle.numbers.proofs.Booleans.{both_true, neither_true}
use Rattle.calendar.specs.Almanac.{most_days}
use Rattle.rights.specs.declared.Right.{Right}
use Rattle.rights.specs.Layout.{most_size, good_owner, good_nodes, good_kind, good_size, good_days, is_good}
use Rattle.rights.specs.Faults.{is_unpriced}
use Rattle.rights.specs.GoodParts.{is_sound, is_within_limits}
use Rattle.rights.specs.RecordWords.{InWidths, right_of}

-- the most that each field may be, in the longest year
pub record Small (right : Right) : Type 0 where
  pub owner : right.owner < owners
  pub source : right.source < nodes
  pub sink : right.sink < nodes
  pub kind : right.kind ≤ 1
  pub class : right.class ≤ 2
  pub size : right.size ≤ most_size
  pub first : right.first ≤ most_days
  pub last : right.last ≤ most_days

-- a right that is not unpriced has both its nodes among the prices
module _ (prices : ℕ) (right : Right) (priced : is_unpriced prices right ≡ false) where
  pub source_priced : right.source < prices
  source_priced =
      leb-false prices right.source (neither_true (leb prices right.source) (leb prices right.sink) priced).0

  pub sink_priced : right.sink < prices
  sink_priced =
      leb-false prices right.sink (neither_true (leb prices right.source) (leb prices right.sink) priced).1

-- a right is good where each part of its test holds
pub good_parts : (days : ℕ) (right : Right) → is_good days right ≡ (is_within_limits right && is_sound right && leb right.last days)
good_parts days right =
    in_order (good_owner right) (ltb right.source nodes) (ltb right.sink nodes) (not (eqb right.sink right.source)) (leb right.kind 1) (leb right.class 2)
    (good_size right) (leb 1 right.first) (leb right.first right.last) (leb right.last days)
  where
    in_order : (owner source sink other kind class size first order last : Bool)
        → (owner && (source && sink && other) && (kind && class) && size && (first && order && last))
        ≡ ((owner && source && sink && kind) && (other && class && size && first && order) && last)
    in_order false source sink other kind class size first order last = refl
    in_order true false sink other kind class size first order last = refl
    in_order true true false other kind class size first order last = refl
    in_order true true true false false class size first order last = refl
    in_order true true true false true class size first order last = refl
    in_order true true true true false class size first order last = refl
    in_order true true true true true false size first order last = refl
    in_order true true true true true true false first order last = refl
    in_order true true true true true true true false order last = refl
    in_order true true true true true true true true false last = refl
    in_order true true true true true true true true true last = refl

-- a test of a joined word, asked of both words
record OfBoth (whole one two : Bool) : Type 0 where
  pub is : whole ≡ (one && two)

-- and two such tests
of_both : {first of_one of_two second and_one and_two : Bool} → OfBoth first of_one of_two → OfBoth second and_one and_two
    → OfBoth (first && second) (of_one && and_one) (of_two && and_two)
of_both {of_one = a} {of_two = b} {and_one = c} {and_two = d} f s = record { is = ap₂ (λ (a b : Bool). a && b) f.is s.is ∙ apart a b c d }
  where
    apart : (a b c d : Bool) → ((a && b) && (c && d)) ≡ ((a && c) && (b && d))
    apart false b c d = refl
    apart true false false d = refl
    apart true false true d = refl
    apart true true c d = refl

-- joined low words are within the limits where each is: each of these limits is a power of two
pub limits_joined : (one two high : ℕ)
    → is_within_limits (right_of (bit_or one two) high) ≡ (is_within_limits (right_of one high) && is_within_limits (right_of two high))
limits_joined one two high = (of_both (of_both (of_both (part 2 0 6) (part 2 2 10)) (part 2 4 10)) kind).is
  where
    part : (n at k : ℕ) → OfBoth (ltb (part_of n (bit_or one two) at) (2 ^ k)) (ltb (part_of n one at) (2 ^ k)) (ltb (part_of n two at) (2 ^ k))
    part n at k = record { is = ap (λ (w : ℕ). ltb w (2 ^ k)) (join_part n one two at) ∙ join_below k (part_of n one at) (part_of n two at) }

    one_at_most : (kind : ℕ) → leb kind 1 ≡ ltb kind 2
    one_at_most kind = by_kind (ltb kind 2) refl
      where
        by_kind : (few : Bool) → ltb kind 2 ≡ few → leb kind 1 ≡ few
        by_kind true is = le-leb kind 1 (omega (arith, ltb-true kind 2 is))
        by_kind false is = lt-leb kind 1 (omega (arith, ltb-false kind 2 is))

    kind : OfBoth (leb (part_of 1 (bit_or one two) 6) 1) (leb (part_of 1 one 6) 1) (leb (part_of 1 two 6) 1)
    kind =
        record {
          is =
              one_at_most (part_of 1 (bit_or one two) 6)
              ∙ (part 1 6 1).is
              ∙ sym (ap₂ (λ (a b : Bool). a && b) (one_at_most (part_of 1 one 6)) (one_at_most (part_of 1 two 6)));
        }

-- in a year with so many days
module _ (days : ℕ) (right : Right) (good : is_good days right ≡ true) where
  to_size : (good_owner right && good_nodes right && good_kind right && good_size right) ≡ true
  to_size = (both_true (good_owner right && good_nodes right && good_kind right && good_size right) (good_days days right) good).0

  to_kind : (good_owner right && good_nodes right && good_kind right) ≡ true
  to_kind = (both_true (good_owner right && good_nodes right && good_kind right) (good_size right) to_size).0

  to_nodes : (good_owner right && good_nodes right) ≡ true
  to_nodes = (both_true (good_owner right && good_nodes right) (good_kind right) to_kind).0

  pub owner_is_good : good_owner right ≡ true
  owner_is_good = (both_true (good_owner right) (good_nodes right) to_nodes).0

  pub size_is_good : good_size right ≡ true
  size_is_good = (both_true (good_owner right && good_nodes right && good_kind right) (good_size right) to_size).1

  both_nodes : (ltb right.source nodes && ltb right.sink nodes) ≡ true
  both_nodes =
      (both_true (ltb right.source nodes && ltb right.sink nodes) (not (eqb right.sink right.source))
      (both_true (good_owner right) (good_nodes right) to_nodes).1).0

  -- with as many prices as there are nodes, each of its nodes has one
  pub good_priced : (prices : ℕ) → nodes ≤ prices → is_unpriced prices right ≡ false
  good_priced prices enough =
      let priced = both_true (ltb right.source nodes) (ltb right.sink nodes) both_nodes in
      let source = ltb-true right.source nodes priced.0 in
      let sink = ltb-true right.sink nodes priced.1 in
      rw (lt-leb prices right.source (omega arith), lt-leb prices right.sink (omega arith))

  -- its fields are small
  pub good_small : days ≤ most_days → Small right
  good_small few =
      let nodes_good = both_true (ltb right.source nodes) (ltb right.sink nodes) both_nodes in
      let kind_good = both_true (leb right.kind 1) (leb right.class 2) (both_true (good_owner right && good_nodes right) (good_kind right) to_kind).1 in
      let size_good = both_true (leb 1 right.size) (leb right.size most_size) size_is_good in
      let days_good = both_true (leb 1 right.first && leb right.first right.last) (leb right.last days)
      (both_true (good_owner right && good_nodes right && good_kind right && good_size right) (good_days days right) good).1 in
      let first_good = both_true (leb 1 right.first) (leb right.first right.last) days_good.0 in
      let last_most : right.last ≤ days = leb-true right.last days days_good.1 in
      record {
        owner = ltb-true right.owner owners owner_is_good;
        source = ltb-true right.source nodes nodes_good.0;
        sink = ltb-true right.sink nodes nodes_good.1;
        kind = leb-true right.kind 1 kind_good.0;
        class = leb-true right.class 2 kind_good.1;
        size = leb-true right.size most_size size_good.1;
        first = omega (arith, leb-true right.first right.last first_good.1, last_most);
        last = omega (arith, last_most);
      }

  -- so that each is in its width
  pub good_widths : days ≤ most_days → InWidths right
  good_widths few =
      let small = good_small few in
      record {
        owner = omega (arith, small.owner);
        source = omega (arith, small.source);
        sink = omega (arith, small.sink);
        kind = omega (arith, small.kind);
        class = omega (arith, small.class);
        size = omega (arith, small.size);
        first = omega (arith, small.first);
        last = omega (arith, small.last);
      }

-- a sound right has one of the three classes, and days in their order
module _ (right : Right) (sound : is_sound right ≡ true) where
  to_order : ((not (eqb right.sink right.source) && leb right.class 2 && good_size right && leb 1 right.first) ≡ true) × (leb right.first right.last ≡ true)
  to_order = both_true (not (eqb right.sink right.source) && leb right.class 2 && good_size right && leb 1 right.first) (leb right.first right.last) sound

  to_first : ((not (eqb right.sink right.source) && leb right.class 2 && good_size right) ≡ true) × (leb 1 right.first ≡ true)
  to_first = both_true (not (eqb right.sink right.source) && leb right.class 2 && good_size right) (leb 1 right.first) to_order.0

  pub days_in_order : (1 ≤ right.first) × (right.first ≤ right.last)
  days_in_order = (leb-true 1 right.first to_first.1, leb-true right.first right.last to_order.1)

  pub class_known : right.class ≤ 2
  class_known =
      leb-true right.class 2
      (both_true (not (eqb right.sink right.source)) (leb right.class 2)
      (both_true (not (eqb right.sink right.source) && leb right.class 2) (good_size right) to_first.0).0).1

pub good_owner_lem : (right : Right) → good_owner right ≡ true → right.owner < owners
good_owner_lem right good = ltb-true _ _ good

pub good_size_lem : (right : Right) → good_size right ≡ true → right.size ≤ most_size
good_size_lem right good = leb-true _ _ (both_true (leb 1 right.size) (leb right.size most_size) good).1
