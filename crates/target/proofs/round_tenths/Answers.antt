-- No step leaves 64 bits, and the cents of the whole tenths and of the rest are the nearest cent.
use Rattle.std.proofs.Common.{arith}
use Rattle.std.proofs.lemmas.Int.{to_z-of_z}
use Rattle.target.proofs.Rounding.{nearest, whole_fits, rest_fits, part_fits, sum_fits}
use Rattle.target.proofs.round_tenths.Goals as goal

pub returns : goal.returns
returns c =
    let fits = c.ranges.tenths in
    grind (arith, to_z-of_z, nearest c.args.tenths, rest_fits _ fits, whole_fits _ fits, part_fits _ fits, sum_fits _ fits)
