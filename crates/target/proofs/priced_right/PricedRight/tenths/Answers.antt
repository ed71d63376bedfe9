-- The gain is the spread's, and the size is a good one: few tenths.
use Rattle.std.proofs.Common.{◌≡◌, arith}
use Rattle.std.proofs.lemmas.Int.{to_z-of_z}
use Rattle.target.specs.Target.{counted, spread}
use Rattle.target.proofs.Cents.{tenths_most}
use Rattle.target.proofs.priced_right.PricedRight.tenths.Goals as goal

pub overflow_mul-result : goal.overflow_mul-result
overflow_mul-result c =
    let s = c.args.self.now in
    let gain : c.counted-gain.result ≡ counted s.right.kind (spread s.prices.now s.right) = grind (arith, to_z-of_z) in
    grind (arith, to_z-of_z, gain, tenths_most s.prices.now s.tame s.right s.sized)

pub returns : goal.returns
returns c =
    let s = c.args.self.now in
    let gain : c.counted-gain.result ≡ counted s.right.kind (spread s.prices.now s.right) = grind (arith, to_z-of_z) in
    grind (arith, to_z-of_z, gain, tenths_most s.prices.now s.tame s.right s.sized)
