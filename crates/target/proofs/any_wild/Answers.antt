-- The fold of the test over the prices says whether one of them passes it.
use Rattle.std.proofs.Common.{◌≡◌, ℕ, zero, suc, ◌≤◌, Bool, false, ◌||◌, List, length, take, get_or, ℤ, pos, sym, ap, ◌∙◌, arith}
use Rattle.std.proofs.lemmas.Grind.{common_steps}
use Rattle.std.proofs.lemmas.List.{take_all}
use Rattle.std.proofs.lemmas.List.Sums.{fold_push}
use Rattle.std.proofs.Math.Nat.{le_refl}
use Rattle.std.proofs.Math.Seq.{take-suc}
use Rattle.std.specs.List.{fold}
use Rattle.numbers.specs.Lists.{any_below}
use Rattle.numbers.proofs.Any.{any_none}
use Rattle.target.specs.Target.{is_wild, wild_at, any_wild}
use Rattle.target.proofs.any_wild.Goals as goal

-- one price more
next : Bool → ℤ → Bool
next wild price = wild || is_wild price

-- over the prices before a node
fold_below : (prices : List ℤ) (node : ℕ) → node ≤ length prices → fold next false (take node prices) ≡ any_below (wild_at prices) node
unfolding any_below next
fold_below prices zero inside = sym (any_none (wild_at prices))
fold_below prices (suc node) inside =
    ap (fold next false) (take-suc prices node (pos 0) (omega arith))
    ∙ fold_push next false (take node prices) (get_or prices node (pos 0))
    ∙ ap (λ (wild : Bool). wild || wild_at prices node) (fold_below prices node (omega arith))

pub returns : goal.returns
unfolding any_wild next
returns c =
    let prices = c.args.prices.now in
    let folded : c.fold.result ≡ fold (λ (wild : Bool) (price : ℤ). wild || is_wild price) false prices = grind (arith, common_steps) in
    folded
    ∙ ap (fold next false) (sym (take_all (length prices) prices (le_refl (length prices))))
    ∙ fold_below prices (length prices) (le_refl (length prices))
