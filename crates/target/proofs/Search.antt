-- The search for the live records: what it has noted at each record, and what it gives.
-- Assumes nothing.
use Prim.Native.Nat.{ℕ, zero, suc, ◌+◌, ◌*◌, ◌/◌, ◌%◌, ◌^◌, ◌≤◌, ◌<◌, zero-le}
use mathlib.Core.Path.{◌≡◌, refl, sym, ap, ap₂, subst, ◌∙◌}
use mathlib.Core.Bool.{Bool, true, false, not, ◌&&◌, ◌||◌, and-true, and-false}
use mathlib.Core.List.{List}
use native.Mathlib.Decide.{ℕ_discrete}
use native.Mathlib.Omega.{arith}
use lib.Dec.{leb, ltb}
use lib.ListN.{length, get_or, set}
use lib.Seq.{get_or-set_same, get_or-set_other}
use lib.IntN.{ℤ, ◌+ℤ◌, +ℤ_idr}
use borrow.Author.Tests.{leb-true, leb-false, lt-leb, le-ltb, lt-ltb, ltb-true, ltb-false, not-true}
use Rattle.std.specs.Int.{from_bool}
use Rattle.std.specs.Int.Bits.{bit_or}
use Rattle.std.proofs.lemmas.Bool.{not-false}
use Rattle.numbers.specs.Lists.{any_below, sum_below}
use Rattle.numbers.proofs.Any.{any_absent, any_here, any_miss, any_more, any_none, any_other, none_next}
use Rattle.numbers.proofs.Bits.{join_below}
use Rattle.numbers.proofs.Booleans.{neither_true, not_not}
use Rattle.numbers.proofs.Signed.{sum_none, sum_next, sum_ext}
use Rattle.calendar.specs.declared.OperatingHour.{OperatingHour}
use Rattle.calendar.specs.Almanac.{days_in_year}
use Rattle.rights.specs.declared.Right.{Right}
use Rattle.rights.specs.Layout.{class_fits, record_bytes, record_count, right_at, is_good, is_live, is_wrong_length}
use Rattle.rights.specs.GoodParts.{is_sound, is_within_limits}
use Rattle.rights.specs.RecordWords.{right_of}
use Rattle.rights.proofs.Readings.{whole_records}
use Rattle.rights.proofs.Good.{good_parts, limits_joined}
use Rattle.target.specs.declared.live_rights.Noted.{Noted}
use Rattle.target.specs.InnerContracts.{AreLive, LiveNoted, Searched, number_in, passed, classes_that_fit, is_beyond, is_late, is_live_on, is_unsound, met_a_bad_one}

-- the record of a number is bad
abbrev pub is_bad : ℕ → List ℕ → ℕ → Bool
is_bad year file number = not (is_good (days_in_year year) (right_at file number))

-- an entry of this table is 0 or 1
pub one_at_most : (peak : Bool) (class : ℕ) → get_or (classes_that_fit peak) class 0 ≤ 1
one_at_most true zero = omega arith
one_at_most false zero = omega arith
one_at_most true (suc zero) = omega arith
one_at_most false (suc zero) = omega arith
one_at_most true (suc (suc zero)) = omega arith
one_at_most false (suc (suc zero)) = omega arith
one_at_most true (suc (suc (suc class))) = omega arith
one_at_most false (suc (suc (suc class))) = omega arith

-- a right with a good class whose first day is at least 1 is live in an hour exactly if that day is one of its own
pub fits_today : (hour : OperatingHour) (right : Right) → right.class ≤ 2 → 1 ≤ right.first
    → is_live_on right (hour.day * get_or (classes_that_fit hour.peak) right.class 0) ≡ is_live hour right
fits_today hour right class first = by_peak right.class hour.peak class
  where
    never : (day : ℕ) → day ≡ 0 → (leb right.first day && leb day right.last) ≡ (leb right.first hour.day && leb hour.day right.last && false)
    never day none =
        ap (λ (b : Bool). b && leb day right.last) (lt-leb right.first day (omega (arith, first, none)))
        ∙ sym (and-false (leb right.first hour.day && leb hour.day right.last))

    always : (day : ℕ) → day ≡ hour.day → (leb right.first day && leb day right.last) ≡ (leb right.first hour.day && leb hour.day right.last && true)
    always day same =
        ap (λ (d : ℕ). leb right.first d && leb d right.last) same ∙ sym (and-true (leb right.first hour.day && leb hour.day right.last))

    by_peak : (class : ℕ) (peak : Bool) → class ≤ 2
        → is_live_on right (hour.day * get_or (classes_that_fit peak) class 0) ≡ (leb right.first hour.day && leb hour.day right.last && class_fits class peak)
    by_peak zero true few = always (hour.day * 1) (omega arith)
    by_peak zero false few = never (hour.day * 0) (omega arith)
    by_peak (suc zero) true few = never (hour.day * 0) (omega arith)
    by_peak (suc zero) false few = always (hour.day * 1) (omega arith)
    by_peak (suc (suc zero)) true few = always (hour.day * 1) (omega arith)
    by_peak (suc (suc zero)) false few = always (hour.day * 1) (omega arith)
    by_peak (suc (suc (suc class))) peak few = absurd (omega (arith, few))

-- the numbers of the live records
module _ (file : List ℕ) (hour : OperatingHour) where
  pub none_yet : (number : ℕ → ℕ) → AreLive file hour number 0 0
  none_yet number =
      record {
        fewer = zero-le;
        below = λ i inside. absurd (omega (arith, inside));
        live = λ i inside. absurd (omega (arith, inside));
        all = λ amount zero. sum_none (λ i. amount (number i)) ∙ sym (sum_none amount);
      }

  -- with this one at the next place of the list
  module _ (before after : ℕ → ℕ) (count bound : ℕ) (so_far : AreLive file hour before count bound)
      (stays : (i : ℕ) → i < count → after i ≡ before i) (here : after count ≡ bound) where
    same_sum : (amount : ℕ → ℤ) → sum_below (λ i. amount (after i)) count ≡ sum_below (λ i. amount (before i)) count
    same_sum amount = sum_ext (λ i. amount (after i)) (λ i. amount (before i)) count (λ i inside. ap amount (stays i inside))

    -- its record is not live: the place is free again
    other : is_live hour (right_at file bound) ≡ false → AreLive file hour after count (bound + 1)
    other is =
        record {
          fewer = omega (arith, so_far.fewer);
          below = λ i inside. omega (arith, stays i inside, so_far.below i inside);
          live = λ i inside. ap (λ (k : ℕ). is_live hour (right_at file k)) (stays i inside) ∙ so_far.live i inside;
          all = λ amount zero.
              same_sum amount
              ∙ so_far.all amount zero
              ∙ sym (+ℤ_idr (sum_below amount bound))
              ∙ ap (λ (z : ℤ). sum_below amount bound +ℤ z) (sym (zero bound is))
              ∙ sym (sum_next amount bound);
        }

    -- its record is live
    one : is_live hour (right_at file bound) ≡ true → AreLive file hour after (count + 1) (bound + 1)
    one is =
        record {
          fewer = omega (arith, so_far.fewer);
          below = λ i inside. below i inside (ℕ_discrete i count);
          live = λ i inside. live i inside (ℕ_discrete i count);
          all = λ amount zero.
              sum_next (λ i. amount (after i)) count
              ∙ ap₂ (λ (x y : ℤ). x +ℤ y) (same_sum amount ∙ so_far.all amount zero) (ap amount here)
              ∙ sym (sum_next amount bound);
        }
      where
        below : (i : ℕ) → i < count + 1 → Dec (i ≡ count) → after i < bound + 1
        below i inside (yes e) = omega (arith, ap after e ∙ here)
        below i inside (no f) =
            let inner : i < count = omega (arith, inside, f) in
            omega (arith, stays i inner, so_far.below i inner)

        live : (i : ℕ) → i < count + 1 → Dec (i ≡ count) → is_live hour (right_at file (after i)) ≡ true
        live i inside (yes e) = ap (λ (k : ℕ). is_live hour (right_at file k)) (ap after e ∙ here) ∙ is
        live i inside (no f) =
            let inner : i < count = omega (arith, inside, f) in
            ap (λ (k : ℕ). is_live hour (right_at file k)) (stays i inner) ∙ so_far.live i inner

    -- one record more
    pub next : (test : Bool) → is_live hour (right_at file bound) ≡ test → AreLive file hour after (count + from_bool test) (bound + 1)
    next true is = one is
    next false is = subst (λ (k : ℕ). AreLive file hour after k (bound + 1)) (omega arith) (other is)

-- the places of a list are those of whole records, and one place more is
pub whole_next : (places : List ℕ) (count place : ℕ) → ((i : ℕ) → i < count → get_or places i 0 % record_bytes ≡ 0) → place % record_bytes ≡ 0 → count < length places
    → (test : Bool) (i : ℕ) → i < count + from_bool test → get_or (set places count place) i 0 % record_bytes ≡ 0
whole_next places count place whole fits room test i inside = by_place (ℕ_discrete i count)
  where
    by_place : Dec (i ≡ count) → get_or (set places count place) i 0 % record_bytes ≡ 0
    by_place (yes e) = ap (λ (k : ℕ). get_or (set places count place) k 0 % record_bytes) e ∙ ap (λ (k : ℕ). k % record_bytes) (get_or-set_same places count place 0 room) ∙ fits
    by_place (no f) = ap (λ (k : ℕ). k % record_bytes) (get_or-set_other places count i place 0 f) ∙ whole i (before test inside)
      where
        before : (test : Bool) → i < count + from_bool test → i < count
        before true l = omega (arith, l, f)
        before false l = omega (arith, l)

-- a last day that is raised by what so many days leave below 2 ^ 16 stays below that where it is one of them
pub raised : (last raise days : ℕ) → raise + days + 1 ≡ 2 ^ 16 → ltb (last + raise) (2 ^ 16) ≡ leb last days
raised last raise days fits = by_test (leb last days) refl
  where
    by_test : (early : Bool) → leb last days ≡ early → ltb (last + raise) (2 ^ 16) ≡ early
    by_test true is = lt-ltb (last + raise) (2 ^ 16) (omega (arith, fits, leb-true last days is))
    by_test false is = le-ltb (last + raise) (2 ^ 16) (omega (arith, fits, leb-false last days is))

-- before the first record
pub searched_none : (year : ℕ) (file : List ℕ) (hour : OperatingHour) (places : List ℕ) (noted : Noted)
    → noted.end ≡ 0 → noted.live ≡ 0 → noted.low ≡ 0 → noted.late ≡ 0 → Searched year file hour places noted
searched_none year file hour places noted start no_live no_bit no_day =
    let none : passed noted ≡ 0 = omega (arith, start) in
    record {
      sound = rw none (any_none (is_unsound file));
      low = ap (λ (n : ℕ). is_within_limits (right_of n 0)) no_bit ∙ sym (ap not (ap (any_below (is_beyond file)) none ∙ any_none (is_beyond file)));
      late = lt-ltb noted.late (2 ^ 16) (omega (arith, no_day)) ∙ sym (ap not (ap (any_below (is_late year file)) none ∙ any_none (is_late year file)));
      live = rw none (rw no_live (none_yet file hour (number_in places)));
      whole = λ i inside. absurd (omega (arith, inside, no_live));
      end_whole = omega (arith, start);
      within = omega (arith, start);
    }

-- one record more
module _ (year : ℕ) (file : List ℕ) (hour : OperatingHour) (places : List ℕ) (noted : Noted) (so_far : Searched year file hour places noted) (right : Right)
    (is : right ≡ right_at file (passed noted)) (sound : is_sound right ≡ true) (room : noted.live < length places) where
  -- the list with its place behind the live ones
  abbrev pub more_places : List ℕ
  more_places = set places noted.live noted.end

  pub searched_next : (more : Noted) (low late : ℕ) (test : Bool) → more.end ≡ noted.end + record_bytes → more.live ≡ noted.live + from_bool test
      → more.low ≡ bit_or noted.low low → more.late ≡ bit_or noted.late late → more.end ≤ length file
      → is_within_limits (right_of low 0) ≡ is_within_limits right → ltb late (2 ^ 16) ≡ leb right.last (days_in_year year) → is_live hour right ≡ test
      → Searched year file hour more_places more
  searched_next more low late test end_is live_is low_is late_is inside within early live =
      record {
        sound = ap (any_below (is_unsound file)) one_more ∙ any_more (is_unsound file) (passed noted) so_far.sound (ap (λ (r : Right). not (is_sound r)) (sym is) ∙ ap not sound);
        low =
            ap (λ (n : ℕ). is_within_limits (right_of n 0)) low_is
            ∙ limits_joined noted.low low 0
            ∙ none_next (is_beyond file) (passed noted) so_far.low (within ∙ ap is_within_limits is ∙ not_not (is_within_limits (right_at file (passed noted))))
            ∙ sym (ap (λ (n : ℕ). not (any_below (is_beyond file) n)) one_more);
        late =
            ap (λ (n : ℕ). ltb n (2 ^ 16)) late_is
            ∙ join_below 16 noted.late late
            ∙ none_next (is_late year file) (passed noted) so_far.late
            (early ∙ ap (λ (r : Right). leb r.last (days_in_year year)) is ∙ not_not (leb (right_at file (passed noted)).last (days_in_year year)))
            ∙ sym (ap (λ (n : ℕ). not (any_below (is_late year file) n)) one_more);
        live =
            rw one_more
            (rw live_is
            (next file hour (number_in places) (number_in more_places) noted.live (passed noted) so_far.live stays here test (ap (is_live hour) (sym is) ∙ live)));
        whole = λ i l. whole_next places noted.live noted.end so_far.whole so_far.end_whole room test i (omega (arith, l, live_is));
        end_whole = omega (arith, end_is, so_far.end_whole);
        within = inside;
      }
    where
      one_more : passed more ≡ passed noted + 1
      one_more = omega (arith, end_is)

      stays : (i : ℕ) → i < noted.live → number_in more_places i ≡ number_in places i
      stays i l = ap (λ (n : ℕ). n / record_bytes) (get_or-set_other places noted.live i noted.end 0 (λ e. omega (arith, l, e)))

      here : number_in more_places noted.live ≡ passed noted
      here = ap (λ (n : ℕ). n / record_bytes) (get_or-set_same places noted.live noted.end 0 room)

-- what the search gave shows whether some record is bad
module _ (year : ℕ) (file : List ℕ) where
  -- a record is bad in one of three ways
  parts : (number : ℕ) → is_bad year file number ≡ not (not (is_beyond file number) && not (is_unsound file number) && not (is_late year file number))
  parts number =
      ap not
      (good_parts (days_in_year year) (right_at file number)
      ∙ ap₂ (λ (a b : Bool). a && b) (ap₂ (λ (a b : Bool). a && b) (not_not (is_within_limits (right_at file number))) (not_not (is_sound (right_at file number))))
      (not_not (leb (right_at file number).last (days_in_year year))))

  beyond_bad : (number : ℕ) → is_beyond file number ≡ true → is_bad year file number ≡ true
  beyond_bad number is = parts number ∙ ap (λ (b : Bool). not (not b && not (is_unsound file number) && not (is_late year file number))) is

  unsound_bad : (number : ℕ) → is_unsound file number ≡ true → is_bad year file number ≡ true
  unsound_bad number is =
      parts number ∙ ap (λ (b : Bool). not (not (is_beyond file number) && not b && not (is_late year file number))) is
      ∙ ap (λ (b : Bool). not (b && not (is_late year file number))) (and-false (not (is_beyond file number)))

  late_bad : (number : ℕ) → is_late year file number ≡ true → is_bad year file number ≡ true
  late_bad number is =
      parts number ∙ ap (λ (b : Bool). not (not (is_beyond file number) && not (is_unsound file number) && not b)) is
      ∙ ap not (and-false (not (is_beyond file number) && not (is_unsound file number)))

  none_bad : (number : ℕ) → is_beyond file number ≡ false → is_unsound file number ≡ false → is_late year file number ≡ false → is_bad year file number ≡ false
  none_bad number within sound early =
      parts number ∙ ap₂ (λ (a b : Bool). not (a && not b)) (ap₂ (λ (a b : Bool). not a && not b) within sound) early

  module _ (hour : OperatingHour) (places : List ℕ) (noted : Noted) (found : LiveNoted year file hour places noted) (right_length : is_wrong_length (length file) ≡ false) where
    -- the search went past no more records than there are
    ahead : passed noted ≤ record_count file
    ahead = omega (arith, found.to_here.within)

    -- a part of the test that fails of the joined words fails of some record's
    some : (part : ℕ → Bool) → ((number : ℕ) → part number ≡ true → is_bad year file number ≡ true) → {test : Bool}
        → test ≡ not (any_below part (passed noted)) → test ≡ false → any_below (is_bad year file) (record_count file) ≡ true
    some part bad is fails =
        any_other part (is_bad year file) (passed noted) (record_count file) ahead (λ number inside. bad number) (not-false (any_below part (passed noted)) (sym is ∙ fails))

    -- else none does
    none : (part : ℕ → Bool) → {test : Bool} → test ≡ not (any_below part (passed noted)) → test ≡ true → any_below part (passed noted) ≡ false
    none part is holds = not-true (any_below part (passed noted)) (sym is ∙ holds)

    -- the test of what was joined tells whether any record of the file is bad
    pub met : met_a_bad_one noted (length file) ≡ any_below (is_bad year file) (record_count file)
    met = by_tests (ltb noted.end (length file)) (is_within_limits (right_of noted.low 0)) (ltb noted.late (2 ^ 16)) refl refl refl
      where
        by_tests : (stopped within early : Bool) → ltb noted.end (length file) ≡ stopped → is_within_limits (right_of noted.low 0) ≡ within → ltb noted.late (2 ^ 16) ≡ early
            → (stopped || not within || not early) ≡ any_below (is_bad year file) (record_count file)
        by_tests true within early s w e =
            let before = ltb-true noted.end (length file) s in
            let inside : passed noted < record_count file = omega (arith, before, found.to_here.end_whole, whole_records file right_length) in
            sym (any_here (is_bad year file) (record_count file) (passed noted) inside (unsound_bad (passed noted) (found.stops before)))
        by_tests false false early s w e = sym (some (is_beyond file) beyond_bad found.to_here.low w)
        by_tests false true false s w e = sym (some (is_late year file) late_bad found.to_here.late e)
        by_tests false true true s w e =
            sym (any_absent (is_bad year file) (record_count file)
            (λ number inside.
            let before : number < passed noted = omega (arith, inside, ltb-false noted.end (length file) s) in
            none_bad number
            (any_miss (is_beyond file) (passed noted) number (none (is_beyond file) found.to_here.low w) before)
            (any_miss (is_unsound file) (passed noted) number found.to_here.sound before)
            (any_miss (is_late year file) (passed noted) number (none (is_late year file) found.to_here.late e) before)))

    -- where it shows none, all live records are noted
    pub all_noted : met_a_bad_one noted (length file) ≡ false → AreLive file hour (number_in places) noted.live (record_count file)
    all_noted fine =
        let past : length file ≤ noted.end =
        ltb-false noted.end (length file)
        (neither_true (ltb noted.end (length file)) (not (is_within_limits (right_of noted.low 0)))
        (neither_true (ltb noted.end (length file) || not (is_within_limits (right_of noted.low 0))) (not (ltb noted.late (2 ^ 16))) fine).0).0 in
        subst (AreLive file hour (number_in places) noted.live) (omega (arith, past, found.to_here.within)) found.to_here.live
