use Rattle.std.proofs.Common.{◌≡◌, w64, get_or, to_z, rules, ◌∙◌, arith}
use Rattle.std.proofs.lemmas.Int.{to_z_pos}
use Rattle.settlement.specs.Events.{payment_lines}
use Rattle.numbers.proofs.Counts.{list_from_fn}
use Rattle.settlement.proofs.lines.of_payments.Goals as goal

pub returns : goal.returns
unfolding payment_lines
returns c =
    list_from_fn _ c.from_fn.ensures.items
    (λ i inside q x call.
    let cast : x ≡ to_z w64 (get_or c.args.payments.now i 0) = search rules in
    (search rules, cast ∙ to_z_pos w64 _ (omega (arith, c.requires i))))
