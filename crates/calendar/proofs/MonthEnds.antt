-- Months rise: when one hour more ends a month, and which month is open then.
-- Assumes nothing.
use Prim.Native.Nat.{ℕ, zero, suc, ◌+◌, ◌*◌, ◌≤◌, ◌<◌}
use mathlib.Core.Path.{◌≡◌, refl, sym, ap, ◌∙◌}
use mathlib.Core.Bool.{Bool, true, false, cond, not, ◌&&◌, ◌||◌, false≢true}
use mathlib.Core.List.{List, [], ◌∷◌}
use native.Mathlib.Nat.{not-suc-le-zero, le_of_suc-le-suc}
use native.Mathlib.Numerals.{add-one}
use native.Mathlib.Omega.{arith}
use lib.Dec.{leb, ltb, eqb}
use lib.ListN.{length, get_or, take}
use Rattle.std.proofs.lemmas.List.{get_or_past}
use borrow.Author.Tests.{leb-true, leb-false, ltb-true, ltb-false, le-leb, lt-leb, lt-ltb, eqb-true, eqb-false, eq-eqb, ne_eqb, not-false}
use Rattle.numbers.specs.Lists.{any_below, total}
use Rattle.numbers.proofs.Any.{any_miss}
use Rattle.numbers.proofs.Booleans.{both_true, neither_true}
use Rattle.calendar.specs.declared.TheConstants.{MONTH_ENDS}
use Rattle.calendar.specs.Almanac.{has_leap_day, days_of_months, days_in_year, is_among}
use Rattle.calendar.specs.Year.{hours_in_year, months_in_year, ends_from, month_ends, month_end, ended_by, is_month_end, month_of}

-- numbers above a first one, each above the one before
pub rises : ℕ → List ℕ → Bool
rises low [] = true
rises low (end ∷ ends) = ltb low end && rises end ends

-- ---- of any list of ends

-- one end more, come or not
ended_come : (end : ℕ) (ends : List ℕ) (hour : ℕ) → end ≤ hour → ended_by (end ∷ ends) hour ≡ suc (ended_by ends hour)
unfolding ended_by
ended_come end ends hour come = rw (le-leb end hour come) (omega arith)

ended_ahead : (end : ℕ) (ends : List ℕ) (hour : ℕ) → hour < end → ended_by (end ∷ ends) hour ≡ ended_by ends hour
unfolding ended_by
ended_ahead end ends hour ahead = rw (lt-leb end hour ahead) (omega arith)

-- an hour with which nothing ends leaves the count
same_ends : (ends : List ℕ) (hour : ℕ) → is_among (suc hour) ends ≡ false → ended_by ends (suc hour) ≡ ended_by ends hour
unfolding is_among
same_ends [] hour none = unfold ended_by in refl
same_ends (end ∷ ends) hour none =
    let parts = neither_true (eqb (suc hour) end) (is_among (suc hour) ends) none in
    by_test (leb end hour) refl (eqb-false (suc hour) end parts.0) (same_ends ends hour parts.1)
  where
    by_test : (test : Bool) → leb end hour ≡ test → (suc hour ≡ end → ⊥) → ended_by ends (suc hour) ≡ ended_by ends hour
        → ended_by (end ∷ ends) (suc hour) ≡ ended_by (end ∷ ends) hour
    by_test true e other same =
        let come = leb-true end hour e in
        ended_come end ends (suc hour) (omega arith) ∙ ap suc same ∙ sym (ended_come end ends hour come)
    by_test false e other same =
        let ahead = leb-false end hour e in
        ended_ahead end ends (suc hour) (omega (arith, other)) ∙ same ∙ sym (ended_ahead end ends hour ahead)

-- one end more among the first
pub ended_more : (ends : List ℕ) (n hour : ℕ) → n < length ends
    → ended_by (take (n + 1) ends) hour ≡ ended_by (take n ends) hour + cond (leb (get_or ends n 0) hour) 1 0
unfolding ended_by
ended_more ends n hour inside = ap (λ (m : ℕ). ended_by (take m ends) hour) (add-one n) ∙ by_place ends n inside
  where
    by_place : (ends : List ℕ) (n : ℕ) → n < length ends
        → ended_by (take (suc n) ends) hour ≡ ended_by (take n ends) hour + cond (leb (get_or ends n 0) hour) 1 0
    by_place [] n inside = absurd (not-suc-le-zero inside)
    by_place (end ∷ ends) zero inside = omega arith
    by_place (end ∷ ends) (suc n) inside = omega (arith, by_place ends n (le_of_suc-le-suc inside))

-- ---- of ends that rise

module _ (low end : ℕ) (ends : List ℕ) (up : rises low (end ∷ ends) ≡ true) where
  first_above : low < end
  unfolding rises
  first_above = ltb-true low end (both_true (ltb low end) (rises end ends) up).0

  rest_rises : rises end ends ≡ true
  unfolding rises
  rest_rises = (both_true (ltb low end) (rises end ends) up).1

-- none of the ends above a number has come at it
none_ended : (low : ℕ) (ends : List ℕ) → rises low ends ≡ true → (hour : ℕ) → hour ≤ low → ended_by ends hour ≡ 0
none_ended low [] up hour within = unfold ended_by in refl
none_ended low (end ∷ ends) up hour within =
    let above = first_above low end ends up in
    ended_ahead end ends hour (omega arith) ∙ none_ended end ends (rest_rises low end ends up) hour (omega arith)

-- and each of them is above that number
among_above : (low : ℕ) (ends : List ℕ) → rises low ends ≡ true → (hour : ℕ) → is_among hour ends ≡ true → low < hour
unfolding is_among
among_above low [] up hour among = absurd (false≢true among)
among_above low (end ∷ ends) up hour among =
    by_test (eqb hour end) refl (among_above end ends (rest_rises low end ends up) hour) among
  where
    by_test : (test : Bool) → eqb hour end ≡ test → (is_among hour ends ≡ true → end < hour) → (test || is_among hour ends) ≡ true
        → low < hour
    by_test true e above _ = omega (arith, first_above low end ends up, eqb-true hour end e)
    by_test false e above later = omega (arith, first_above low end ends up, above later)

-- the next end is still ahead
next_ahead : (low : ℕ) (ends : List ℕ) → rises low ends ≡ true → (hour : ℕ) → ended_by ends hour < length ends
    → hour < get_or ends (ended_by ends hour) 0
next_ahead low [] up hour inside = absurd (omega arith)
next_ahead low (end ∷ ends) up hour inside =
    by_test (leb end hour) refl (next_ahead end ends (rest_rises low end ends up) hour)
  where
    by_test : (test : Bool) → leb end hour ≡ test → (ended_by ends hour < length ends → hour < get_or ends (ended_by ends hour) 0)
        → hour < get_or (end ∷ ends) (ended_by (end ∷ ends) hour) 0
    by_test true e later =
        let come = ended_come end ends hour (leb-true end hour e) in
        rw come (later (omega arith))
    by_test false e later =
        let ahead = leb-false end hour e in
        rw (ended_ahead end ends hour ahead, none_ended end ends (rest_rises low end ends up) hour (omega arith)) ahead

-- an hour with which something ends: it was the next end, and is counted
record EndsAt (ends : List ℕ) (hour : ℕ) : Type 0 where
  inside : ended_by ends hour < length ends
  here : get_or ends (ended_by ends hour) 0 ≡ suc hour
  counted : ended_by ends (suc hour) ≡ suc (ended_by ends hour)

ends_at : (low : ℕ) (ends : List ℕ) → rises low ends ≡ true → (hour : ℕ) → is_among (suc hour) ends ≡ true → EndsAt ends hour
unfolding is_among
ends_at low [] up hour among = absurd (false≢true among)
ends_at low (end ∷ ends) up hour among =
    by_test (eqb (suc hour) end) refl (ends_at end ends (rest_rises low end ends up) hour) among
  where
    rest : rises end ends ≡ true
    rest = rest_rises low end ends up

    by_test : (test : Bool) → eqb (suc hour) end ≡ test → (is_among (suc hour) ends ≡ true → EndsAt ends hour)
        → (test || is_among (suc hour) ends) ≡ true → EndsAt (end ∷ ends) hour
    by_test true e _ _ =
        let is = eqb-true (suc hour) end e in
        let none = ended_ahead end ends hour (omega arith) ∙ none_ended end ends rest hour (omega arith) in
        record {
          inside = rw none (omega arith);
          here = rw none (sym is);
          counted =
              ended_come end ends (suc hour) (omega arith)
              ∙ ap suc (none_ended end ends rest (suc hour) (omega arith) ∙ sym none);
        }
    by_test false e at later =
        let above = among_above end ends rest (suc hour) later in
        let come = ended_come end ends hour (omega arith) in
        record {
          inside = rw come (omega (arith, (at later).inside));
          here = rw come (at later).here;
          counted = ended_come end ends (suc hour) (omega arith) ∙ ap suc ((at later).counted ∙ sym come);
        }

-- ---- of the months of a year: what does not follow from their rising is computed for both kinds of year, with a 29 February and without

-- their ends, and the end of one of them
abbrev ends_by : Bool → List ℕ
ends_by leap = ends_from 0 (days_of_months leap)

abbrev end_by : Bool → ℕ → ℕ
end_by leap month = get_or (ends_by leap) month 0

year_rises : (year : ℕ) → rises 0 (month_ends year) ≡ true
unfolding month_ends rises ends_from days_of_months
year_rises year = by_leap (has_leap_day year)
  where
    by_leap : (leap : Bool) → rises 0 (ends_by leap) ≡ true
    by_leap true = refl
    by_leap false = refl

pub year_long : (year : ℕ) → length (month_ends year) ≡ months_in_year
unfolding month_ends ends_from days_of_months
year_long year = refl

-- the constant month ends are those of a year without a 29 February, which moves the last four by a day: by one test over the months
moves_otherwise : Bool → ℕ → Bool
moves_otherwise leap month = not (eqb (end_by leap month) (get_or MONTH_ENDS month 0 + 24 * cond (leb 8 month && leap) 1 0))

pub month_end_is : (year month : ℕ) → month < months_in_year
    → month_end year month ≡ get_or MONTH_ENDS month 0 + 24 * cond (leb 8 month && has_leap_day year) 1 0
unfolding month_ends moves_otherwise any_below ends_from days_of_months
month_end_is year month inside =
    eqb-true _ _
    (not-false _ (any_miss (moves_otherwise (has_leap_day year)) months_in_year month (by_leap (has_leap_day year)) inside))
  where
    by_leap : (leap : Bool) → any_below (moves_otherwise leap) months_in_year ≡ false
    by_leap true = refl
    by_leap false = refl

pub no_month_end : (year month : ℕ) → months_in_year ≤ month → month_end year month ≡ 0
no_month_end year month past = get_or_past (month_ends year) month 0 (omega (arith, year_long year))

-- a month ends no later than the next, by one test over the months
falls_back : Bool → ℕ → Bool
falls_back leap month = ltb (end_by leap (month + 1)) (end_by leap month)

pub months_rise : (year month : ℕ) → month + 1 < months_in_year → month_end year month ≤ month_end year (month + 1)
unfolding month_ends falls_back any_below ends_from days_of_months
months_rise year month inside =
    ltb-false (month_end year (month + 1)) (month_end year month)
    (any_miss (falls_back (has_leap_day year)) 11 month (by_leap (has_leap_day year)) (omega arith))
  where
    by_leap : (leap : Bool) → any_below (falls_back leap) 11 ≡ false
    by_leap true = refl
    by_leap false = refl

-- and none after the year
past_year : Bool → ℕ → Bool
past_year leap month = ltb (24 * total (days_of_months leap)) (end_by leap month)

pub within_year : (year month : ℕ) → month < months_in_year → month_end year month ≤ hours_in_year year
unfolding month_ends days_in_year past_year any_below ends_from days_of_months total
within_year year month inside =
    ltb-false (hours_in_year year) (month_end year month)
    (any_miss (past_year (has_leap_day year)) months_in_year month (by_leap (has_leap_day year)) inside)
  where
    by_leap : (leap : Bool) → any_below (past_year leap) months_in_year ≡ false
    by_leap true = refl
    by_leap false = refl

-- the last month ends with the year
pub last_month : (year : ℕ) → month_end year 11 ≡ hours_in_year year
unfolding month_ends days_in_year ends_from days_of_months total
last_month year = by_leap (has_leap_day year)
  where
    by_leap : (leap : Bool) → end_by leap 11 ≡ 24 * total (days_of_months leap)
    by_leap true = refl
    by_leap false = refl

-- within the year the month of an hour is open, and its end still ahead
pub month_open : (year hour : ℕ) → is_month_end year hour (month_of year hour) ≡ false
unfolding month_of
month_open year hour = by_test (ltb (month_of year hour) months_in_year) refl
  where
    by_test : (test : Bool) → ltb (month_of year hour) months_in_year ≡ test → is_month_end year hour (month_of year hour) ≡ false
    by_test true e =
        let ahead = next_ahead 0 (month_ends year) (year_rises year) hour (omega (arith, ltb-true _ months_in_year e, year_long year)) in
        rw (e, ne_eqb hour (month_end year (month_of year hour)) (λ at. omega arith))
    by_test false e = rw e

-- an hour more that ends a month: the open month ends with it, and the next one opens
pub month_ends_lem : (year hour : ℕ) → is_among (suc hour) (month_ends year) ≡ true
    → (is_month_end year (suc hour) (month_of year hour) ≡ true) × (month_of year (suc hour) ≡ month_of year hour + 1)
unfolding month_of
month_ends_lem year hour among =
    let end = ends_at 0 (month_ends year) (year_rises year) hour among in (
      rw
          (lt-ltb (month_of year hour) months_in_year (omega (arith, end.inside, year_long year)), eq-eqb (suc hour) (month_end year (month_of year hour)) (sym end.here)),
      end.counted ∙ omega arith,
    )

-- any other hour more: the same month
pub month_goes_on : (year hour : ℕ) → is_among (suc hour) (month_ends year) ≡ false → month_of year (suc hour) ≡ month_of year hour
unfolding month_of
month_goes_on year hour none = same_ends (month_ends year) hour none

-- at the year's first hour no month is closed, and after its last one all are
pub no_month_yet : (year : ℕ) → month_of year 0 ≡ 0
unfolding month_of month_ends ended_by ends_from days_of_months
no_month_yet year = by_leap (has_leap_day year)
  where
    by_leap : (leap : Bool) → ended_by (ends_by leap) 0 ≡ 0
    by_leap true = refl
    by_leap false = refl

pub all_months : (year : ℕ) → month_of year (hours_in_year year) ≡ months_in_year
unfolding month_of month_ends days_in_year ended_by ends_from days_of_months total
all_months year = by_leap (has_leap_day year)
  where
    by_leap : (leap : Bool) → ended_by (ends_by leap) (24 * total (days_of_months leap)) ≡ months_in_year
    by_leap true = refl
    by_leap false = refl
