-- Unpaid wants added in place to the cells of one kind, owner by owner.
-- Assumes nothing.
use Prim.Native.Nat.{ℕ, ◌+◌, ◌-◌, ◌*◌, ◌≤◌, ◌<◌}
use mathlib.Core.Path.{◌≡◌, refl, sym, ap, ◌∙◌}
use mathlib.Core.List.{List}
use native.Mathlib.Decide.{ℕ_discrete}
use native.Mathlib.Omega.{arith}
use lib.ListN.{length, get_or, set}
use lib.Seq.{get_or-set_same, get_or-set_other}
use Rattle.numbers.specs.Limits.{owners}
use Rattle.numbers.proofs.Counts.{get_or_list_below, list_below_ext}
use Rattle.settlement.specs.ByOwner.{cells_from}
use Rattle.settlement.specs.Events.{added_to}

module _ (before : List ℕ) (start : ℕ) (more : List ℕ) where
  -- the cells, once so many owners are passed
  pub record Added (now : List ℕ) (passed : ℕ) : Type 0 where
    pub done : (owner : ℕ) → owner < passed → get_or now (2 * owner + start) 0 ≡ get_or before (2 * owner + start) 0 + get_or more owner 0
    pub to_come : (owner : ℕ) → passed ≤ owner → get_or now (2 * owner + start) 0 ≡ get_or before (2 * owner + start) 0
    pub others : (owner : ℕ) → get_or now (2 * owner + (1 - start)) 0 ≡ get_or before (2 * owner + (1 - start)) 0

  pub none_added : Added before 0
  none_added = record { done = λ owner inside. absurd (omega arith); to_come = λ owner later. refl; others = λ owner. refl }

  pub one_more : start < 2 → (now : List ℕ) (owner : ℕ) → 2 * owner + start < length now → Added now owner
      → Added (set now (2 * owner + start) (get_or now (2 * owner + start) 0 + get_or more owner 0)) (owner + 1)
  one_more one_of_two now owner room added =
      record {
        done = λ other inside. by_here other inside (ℕ_discrete other owner);
        to_come = λ other later. get_or-set_other now (2 * owner + start) (2 * other + start) cell 0 (λ e. omega arith) ∙ added.to_come other (omega arith);
        others = λ other. get_or-set_other now (2 * owner + start) (2 * other + (1 - start)) cell 0 (λ e. omega arith) ∙ added.others other;
      }
    where
      cell : ℕ
      cell = get_or now (2 * owner + start) 0 + get_or more owner 0

      by_here : (other : ℕ) → other < owner + 1 → Dec (other ≡ owner)
          → get_or (set now (2 * owner + start) cell) (2 * other + start) 0 ≡ get_or before (2 * other + start) 0 + get_or more other 0
      by_here other inside (yes here) =
          ap (λ (i : ℕ). get_or (set now (2 * owner + start) cell) (2 * i + start) 0) here
          ∙ get_or-set_same now (2 * owner + start) cell 0 room
          ∙ ap (λ (c : ℕ). c + get_or more owner 0) (added.to_come owner (omega arith))
          ∙ ap (λ (i : ℕ). get_or before (2 * i + start) 0 + get_or more i 0) (sym here)
      by_here other inside (no elsewhere) =
          get_or-set_other now (2 * owner + start) (2 * other + start) cell 0 (λ e. elsewhere (omega arith)) ∙ added.done other (omega arith)

  -- the cell that is to come has room where the cells of its kind have
  pub room_here : (now : List ℕ) (owner most : ℕ) → owner < owners → get_or (cells_from before start) owner 0 + get_or more owner 0 < most
      → Added now owner → get_or now (2 * owner + start) 0 + get_or more owner 0 < most
  unfolding cells_from
  room_here now owner most inside room added =
      let here = get_or_list_below (λ o. get_or before (2 * o + start) 0) owners 0 owner inside in
      omega (arith, added.to_come owner (omega arith))

  pub all_added : (now : List ℕ) → Added now owners
      → (cells_from now start ≡ added_to (cells_from before start) more) × (cells_from now (1 - start) ≡ cells_from before (1 - start))
  unfolding cells_from added_to
  all_added now added = (
    list_below_ext _ _ owners
        (λ owner inside.
        added.done owner inside
        ∙ ap (λ (c : ℕ). c + get_or more owner 0) (sym (get_or_list_below (λ o. get_or before (2 * o + start) 0) owners 0 owner inside))),
    list_below_ext _ _ owners (λ owner inside. added.others owner),
  )
