-- The fold of the capped sum over the targets is their charges, up to the limit.
use Rattle.std.proofs.Common.{ℕ, zero, suc, ◌+◌, ◌≤◌, ◌≡◌, min, List, length, take, ℤ, pos, refl, sym, ap, add-one, ◌∙◌, arith}
use Rattle.std.proofs.lemmas.Grind.{common_steps}
use Rattle.std.proofs.lemmas.List.{take_all}
use Rattle.std.proofs.lemmas.List.Sums.{fold_more}
use Rattle.std.specs.List.{fold}
use Rattle.numbers.specs.Limits.{owners, most_cents}
use Rattle.numbers.specs.Lists.{total, list_below}
use Rattle.numbers.specs.Signs.{negative}
use Rattle.numbers.proofs.Counts.{total_suc}
use Rattle.settlement.specs.Events.{target_of, hour_charges}
use Rattle.settlement.proofs.lines.charges_of.Goals as goal

-- one target more
next : ℕ → ℤ → ℕ
next sum target = min (sum + negative target) (most_cents + 1)

-- over the targets of the owners before one
fold_below : (targets : List ℤ) (owner : ℕ) → owner ≤ length targets
    → fold next 0 (take owner targets) ≡ min (total (list_below (λ (k : ℕ). negative (target_of targets k)) owner)) (most_cents + 1)
unfolding next list_below total
fold_below targets zero inside = refl
fold_below targets (suc owner) inside =
    let before = fold_below targets owner (omega arith) in
    ap (λ (n : ℕ). fold next 0 (take n targets)) (sym (add-one owner))
    ∙ fold_more next 0 targets owner (pos 0) (omega arith)
    ∙ omega (arith, before, total_suc (λ (k : ℕ). negative (target_of targets k)) owner)

pub returns : goal.returns
unfolding hour_charges next
returns c =
    let targets = c.args.targets.now in
    let folded : c.fold.result ≡ fold next 0 targets = grind (arith, common_steps) in
    folded
    ∙ ap (fold next 0) (sym (take_all owners targets (omega arith)))
    ∙ fold_below targets owners (omega arith)
