-- For the contract of an inner function alone, no part of what a public call promises.
-- Assumes nothing.
use Rattle.std.specs.Prelude.{Bool, true, false}
use Rattle.rights.specs.declared.Class.{Class}
use Rattle.rights.specs.declared.Class.TheVariants.{Peak, OffPeak}

-- the class that does not fit an hour: off-peak in a peak hour, peak in an off-peak one
abbrev pub other_class : Bool → Class
other_class true = OffPeak
other_class false = Peak
