-- The one pass over the rights: each owner's sum of the cents of the records that a search has noted, and what search and sum give together.
-- Assumes nothing.
use Prim.Native.Nat.{ℕ, ◌+◌, ◌*◌, ◌/◌, ◌%◌, ◌^◌, ◌≤◌, ◌<◌, zero-le}
use mathlib.Core.Path.{◌≡◌, refl, sym, ap, ap₂, subst, ◌∙◌}
use mathlib.Core.Bool.{Bool, true, false, cond, ◌&&◌, ◌||◌, or-true}
use mathlib.Core.List.{List}
use native.Mathlib.Decide.{ℕ_discrete}
use native.Mathlib.Omega.{arith}
use lib.Dec.{eqb, ltb}
use lib.ListN.{length, get_or, set, replicate, length-set, length-replicate, get_or-replicate}
use lib.Seq.{get_or-set_same, get_or-set_other}
use lib.IntN.{ℤ, pos, nat_abs, ◌+ℤ◌, +ℤ_idr}
use borrow.Author.Tests.{eq-eqb, ne_eqb, ltb-false}
use Rattle.std.specs.Prelude.{Some, None, take}
use Rattle.std.proofs.lemmas.List.{get_or-take, length-take-le}
use Rattle.std.proofs.lemmas.Bool.{not-false}
use Rattle.numbers.specs.Limits.{owners, nodes}
use Rattle.numbers.specs.Lists.{any_below, list_below, sum_below}
use Rattle.numbers.proofs.Any.{any_miss}
use Rattle.numbers.proofs.Booleans.{both_true}
use Rattle.numbers.proofs.Counts.{list_below_get_or, list_below_ext}
use Rattle.numbers.proofs.Refusals.{answer_accepted, answer_refused}
use Rattle.numbers.proofs.Signed.{abs_add, sum_none, sum_next, sum_ext}
use Rattle.calendar.specs.declared.OperatingHour.{OperatingHour}
use Rattle.calendar.specs.Almanac.{is_outside, days_in_year}
use Rattle.calendar.proofs.AlmanacLaws.{days_most}
use Rattle.rights.specs.declared.Right.{Right}
use Rattle.rights.specs.Layout.{record_bytes, record_count, right_at, good_size, is_good, is_live, is_wrong_length}
use Rattle.rights.specs.Faults.{file_refusal, any_fault, is_unpriced}
use Rattle.rights.proofs.Faults.{any_bad, any_unpriced, clear_year, clear_length, clear_of_faults, file_rows, some_faults}
use Rattle.rights.proofs.Good.{good_small, owner_is_good, size_is_good, good_owner_lem, good_priced}
use Rattle.rights.proofs.Readings.{records_most}
use Rattle.target.specs.Target.{any_wild, live_cents, own_row, own_sum, row_at}
use Rattle.target.specs.InnerContracts.{ArePriced, AreLive, number_in, added, any_unpriced as unpriced_in, lacks_prices, live_row, live_sum}
use Rattle.target.proofs.Search.{is_bad}
use Rattle.target.proofs.Cents.{most_cents, live_most, row_live, row_not_live}

-- the sums of the cents of these records
module _ (file : List ℕ) (prices : List ℤ) (places : List ℕ) where
  abbrev row : ℕ → ℕ → ℤ
  row owner i = live_row file prices owner (number_in places i)

  -- each owner has the sum over the first so many of these records
  pub record Summed (sums : List ℤ) (i : ℕ) : Type 0 where
    pub long : length sums ≡ owners
    pub each : (owner : ℕ) → owner < owners → get_or sums owner (pos 0) ≡ sum_below (row owner) i
    pub small : (owner : ℕ) → nat_abs (sum_below (row owner) i) ≤ i * most_cents

  pub begins : Summed (replicate owners (pos 0)) 0
  begins =
      record {
        long = length-replicate owners (pos 0);
        each = λ owner inside. get_or-replicate owners owner (pos 0) (pos 0) inside ∙ sym (sum_none _);
        small = λ owner. rw (sum_none (row owner)) zero-le;
      }

  -- the row of a record, for its owner and for another
  row_own : (i : ℕ) → row (right_at file (number_in places i)).owner i ≡ live_cents prices (right_at file (number_in places i))
  unfolding own_row
  row_own i = rw (eq-eqb (right_at file (number_in places i)).owner (right_at file (number_in places i)).owner refl)

  row_other : (i owner : ℕ) → (owner ≡ (right_at file (number_in places i)).owner → ⊥) → row owner i ≡ pos 0
  unfolding own_row
  row_other i owner other = rw (ne_eqb (right_at file (number_in places i)).owner owner (λ e. other (sym e)))

  module _ (fine : ArePriced file prices places) where
    -- a row is at most so much, for anyone
    row_to_most : (i : ℕ) → i < length places → (owner : ℕ) → nat_abs (row owner i) ≤ most_cents
    unfolding own_row
    row_to_most i inside owner = by_owner (eqb (right_at file (number_in places i)).owner owner)
      where
        by_owner : (test : Bool) → nat_abs (cond test (live_cents prices (right_at file (number_in places i))) (pos 0)) ≤ most_cents
        by_owner true = live_most prices fine.tame (right_at file (number_in places i)) (fine.sized i inside)
        by_owner false = zero-le

    module _ (sums : List ℤ) (i : ℕ) (so_far : Summed sums i) (inside : i < length places) (right : Right) (is : right ≡ right_at file (number_in places i)) where
      -- its owner is an owner
      pub owned : right.owner < owners
      owned = subst (λ (r : Right). r.owner < owners) (sym is) (good_owner_lem (right_at file (number_in places i)) (fine.owned i inside))

      -- the sums after this record
      abbrev pub more_sums : List ℤ
      more_sums = set sums right.owner (get_or sums right.owner (pos 0) +ℤ live_cents prices right)

      each_more : (owner : ℕ) → owner < owners → get_or more_sums owner (pos 0) ≡ sum_below (row owner) (i + 1)
      each_more owner within = by_owner (ℕ_discrete owner right.owner)
        where
          next_sum : (z : ℤ) → row owner i ≡ z → get_or sums owner (pos 0) +ℤ z ≡ sum_below (row owner) (i + 1)
          next_sum z e = ap₂ (λ (x y : ℤ). x +ℤ y) (so_far.each owner within) (sym e) ∙ sym (sum_next (row owner) i)

          by_owner : Dec (owner ≡ right.owner) → get_or more_sums owner (pos 0) ≡ sum_below (row owner) (i + 1)
          by_owner (yes e) =
              ap (λ (k : ℕ). get_or more_sums k (pos 0)) e
              ∙ get_or-set_same sums right.owner (get_or sums right.owner (pos 0) +ℤ live_cents prices right) (pos 0) (subst (λ (n : ℕ). right.owner < n) (sym so_far.long) owned)
              ∙ ap (λ (k : ℕ). get_or sums k (pos 0) +ℤ live_cents prices right) (sym e)
              ∙ next_sum (live_cents prices right)
              (ap (λ (k : ℕ). row k i) (e ∙ ap (λ (r : Right). r.owner) is) ∙ row_own i ∙ ap (live_cents prices) (sym is))
          by_owner (no f) =
              get_or-set_other sums right.owner owner (get_or sums right.owner (pos 0) +ℤ live_cents prices right) (pos 0) f
              ∙ sym (+ℤ_idr (get_or sums owner (pos 0)))
              ∙ next_sum (pos 0) (row_other i owner (λ e. f (e ∙ sym (ap (λ (r : Right). r.owner) is))))

      -- one record more
      pub sums_next : Summed more_sums (i + 1)
      sums_next =
          record {
            long = length-set sums right.owner (get_or sums right.owner (pos 0) +ℤ live_cents prices right) ∙ so_far.long;
            each = each_more;
            small = λ owner.
                rw (sum_next (row owner) i)
                (omega (arith, abs_add (sum_below (row owner) i) (row owner i), so_far.small owner, row_to_most i inside owner));
          }

      -- there is room for it
      pub room : nat_abs (get_or sums right.owner (pos 0)) + nat_abs (live_cents prices right) < 2 ^ 63
      room =
          rw (so_far.each right.owner owned)
          (omega (arith, inside, fine.few, so_far.small right.owner, live_most prices fine.tame right (subst (λ (r : Right). good_size r ≡ true) (sym is) (fine.sized i inside))))

  -- past every record
  pub whole : (sums : List ℤ) (i : ℕ) → Summed sums i → i ≡ length places → sums ≡ list_below (live_sum file prices places) owners
  whole sums i summed all =
      sym (list_below_get_or sums (pos 0))
      ∙ ap (list_below (λ owner. get_or sums owner (pos 0))) summed.long
      ∙ list_below_ext (λ owner. get_or sums owner (pos 0)) (live_sum file prices places) owners
      (λ owner inside. summed.each owner inside ∙ ap (sum_below (row owner)) all)

-- what the pass gives
module _ (year : ℕ) (file : List ℕ) (prices : List ℤ) (hour : OperatingHour) where
  -- where the file has a fault, none
  pub stops : (file_refusal year (length prices) file ≡ 0 → ⊥) → None ≡ added year file prices hour
  stops some = sym (answer_refused _ _ None some)

  bad_refused : any_fault year (length prices) file 7 ≡ true → file_refusal year (length prices) file ≡ 0 → ⊥
  bad_refused bad none =
      some_faults year (length prices) file (ap (λ (b : Bool). b || any_fault year (length prices) file 8) bad)
      (sym (file_rows year (length prices) file (clear_year year (length prices) file none) (clear_length year (length prices) file none)) ∙ none)

  -- and so where some record is bad
  pub stops_bad : any_below (is_bad year file) (record_count file) ≡ true → None ≡ added year file prices hour
  stops_bad some = stops (bad_refused (any_bad year (length prices) file ∙ some))

  unpriced_refused : any_fault year (length prices) file 8 ≡ true → file_refusal year (length prices) file ≡ 0 → ⊥
  unpriced_refused unpriced none =
      some_faults year (length prices) file (ap (λ (b : Bool). any_fault year (length prices) file 7 || b) unpriced ∙ or-true (any_fault year (length prices) file 7))
      (sym (file_rows year (length prices) file (clear_year year (length prices) file none) (clear_length year (length prices) file none)) ∙ none)

  -- or has too few prices
  pub stops_unpriced : lacks_prices (length prices) file ≡ true → None ≡ added year file prices hour
  stops_unpriced lacks =
      stops (unpriced_refused (any_unpriced year (length prices) file ∙ (both_true (ltb (length prices) nodes) (unpriced_in (length prices) file) lacks).1))

  -- else each good record has its prices
  priced : lacks_prices (length prices) file ≡ false → (number : ℕ) → number < record_count file
      → is_good (days_in_year year) (right_at file number) ≡ true → is_unpriced (length prices) (right_at file number) ≡ false
  priced enough number inside good = by_count (ltb (length prices) nodes) refl
    where
      by_count : (fewer : Bool) → ltb (length prices) nodes ≡ fewer → is_unpriced (length prices) (right_at file number) ≡ false
      by_count true e =
          let clear : unpriced_in (length prices) file ≡ false = ap (λ (b : Bool). b && unpriced_in (length prices) file) (sym e) ∙ enough in
          any_miss (λ k. is_unpriced (length prices) (right_at file k)) (record_count file) number clear inside
      by_count false e = good_priced (days_in_year year) (right_at file number) good (length prices) (ltb-false (length prices) nodes e)

  module _ (places : List ℕ) (count : ℕ) (found : AreLive file hour (number_in places) count (record_count file))
      (room : count ≤ length places) (whole : (i : ℕ) → i < count → get_or places i 0 % record_bytes ≡ 0) where
    -- the places that were noted
    abbrev noted : List ℕ
    noted = take count places

    noted_at : (i : ℕ) → i < count → get_or noted i 0 ≡ get_or places i 0
    noted_at i inside = get_or-take count places i 0 inside

    noted_long : length noted ≡ count
    noted_long = length-take-le count places room

    -- the row of a record that is not live is 0, whoever owns it
    not_live : (owner number : ℕ) → is_live hour (right_at file number) ≡ false → own_row file owner (row_at file prices hour) number ≡ pos 0
    unfolding own_row
    not_live owner number other = by_owner (eqb (right_at file number).owner owner)
      where
        by_owner : (test : Bool) → cond test (row_at file prices hour number) (pos 0) ≡ pos 0
        by_owner true = row_not_live prices hour (right_at file number) other
        by_owner false = refl

    -- that of a live one is its cents
    is_row : (owner i : ℕ) → i < count
        → live_row file prices owner (number_in noted i) ≡ own_row file owner (row_at file prices hour) (number_in places i)
    unfolding own_row
    is_row owner i inside =
        ap (λ (n : ℕ). live_row file prices owner (n / record_bytes)) (noted_at i inside)
        ∙ ap (λ (z : ℤ). cond (eqb (right_at file (number_in places i)).owner owner) z (pos 0)) (sym (row_live prices hour _ (found.live i inside)))

    -- so the sums over the noted records are those over all
    noted_sum : (owner : ℕ) → live_sum file prices noted owner ≡ own_sum file owner (row_at file prices hour)
    unfolding own_sum
    noted_sum owner =
        ap (sum_below (λ i. live_row file prices owner (number_in noted i))) noted_long
        ∙ sum_ext (λ i. live_row file prices owner (number_in noted i)) (λ i. own_row file owner (row_at file prices hour) (number_in places i)) count (is_row owner)
        ∙ found.all (own_row file owner (row_at file prices hour)) (not_live owner)

    module _ (within : is_outside year ≡ false) (right_length : is_wrong_length (length file) ≡ false) (no_wild : any_wild prices ≡ false)
        (good : any_below (is_bad year file) (record_count file) ≡ false) where
      -- each record is good
      good_at : (number : ℕ) → number < record_count file → is_good (days_in_year year) (right_at file number) ≡ true
      good_at number inside = not-false _ (any_miss (is_bad year file) (record_count file) number good inside)

      module _ (enough : lacks_prices (length prices) file ≡ false) where
        -- the noted records can be settled
        pub can_add : ArePriced file prices noted
        can_add =
            record {
              tame = no_wild;
              few = omega (arith, noted_long, found.fewer, records_most file right_length);
              whole = λ i l. let before : i < count = omega (arith, l, noted_long) in ap (λ (n : ℕ). n % record_bytes) (noted_at i before) ∙ whole i before;
              inside = λ i l. inside i (omega (arith, l, noted_long));
              owned = λ i l. owner_is_good (days_in_year year) (right_at file (number_in noted i)) (fine i (omega (arith, l, noted_long)));
              kinded = λ i l. (good_small (days_in_year year) (right_at file (number_in noted i)) (fine i (omega (arith, l, noted_long))) (days_most year)).kind;
              sized = λ i l. size_is_good (days_in_year year) (right_at file (number_in noted i)) (fine i (omega (arith, l, noted_long)));
              priced = λ i l. priced enough _ (inside i (omega (arith, l, noted_long))) (fine i (omega (arith, l, noted_long)));
            }
          where
            inside : (i : ℕ) → i < count → number_in noted i < record_count file
            inside i l = omega (arith, noted_at i l, found.below i l)

            fine : (i : ℕ) → i < count → is_good (days_in_year year) (right_at file (number_in noted i)) ≡ true
            fine i l = good_at _ (inside i l)

        -- and give the sums
        pub gives : Some (list_below (live_sum file prices noted) owners) ≡ added year file prices hour
        gives =
            ap Some (list_below_ext (live_sum file prices noted) (λ owner. own_sum file owner (row_at file prices hour)) owners (λ owner inside. noted_sum owner))
            ∙ sym
            (answer_accepted _ _ None
            (clear_of_faults year (length prices) file within right_length (λ number inside. (good_at number inside, priced enough number inside (good_at number inside)))))
