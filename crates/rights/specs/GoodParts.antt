-- The tests of a good right in three parts, which hold together exactly where it is good (law `good_parts`): the limits that are powers of two, the
-- last day against the year's days, and the others. No rule of its own.
-- Assumes nothing.
use Rattle.std.specs.Prelude.{Bool, not, ◌&&◌, leb, ltb, eqb}
use Rattle.numbers.specs.Limits.{nodes}
use Rattle.rights.specs.declared.Right.{Right}
use Rattle.rights.specs.Layout.{good_owner, good_size}

-- owner, source, sink and kind are each within their limits
abbrev pub is_within_limits : Right → Bool
is_within_limits right =
    good_owner right && ltb right.source nodes && ltb right.sink nodes && leb right.kind 1

-- the others but the last day's own: the sink is not the source, the class is one of the three, the size is good, and the first day is from 1 to
-- the last
abbrev pub is_sound : Right → Bool
is_sound right =
    not (eqb right.sink right.source)
    && leb right.class 2
    && good_size right
    && leb 1 right.first && leb right.first right.last
