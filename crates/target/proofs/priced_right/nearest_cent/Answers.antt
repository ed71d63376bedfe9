-- The product is the nearest cent with these constants.
use Rattle.std.proofs.Common.{arith, w64, ◌∙◌}
use Rattle.std.proofs.lemmas.Int.{ints, to_z-of_z}
use Rattle.target.proofs.Rounding.{nearest_kept}
use Rattle.target.proofs.priced_right.nearest_cent.Goals as goal

pub returns : goal.returns
returns c =
    nearest_kept c.args.tenths c.requires _ _ _ (c.from-product.ensures ∙ to_z-of_z w64 c.args.tenths c.ranges.tenths) (omega (arith, ints)) (omega (arith, ints))
