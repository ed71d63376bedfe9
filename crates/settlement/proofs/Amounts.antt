-- The numbers that an event gives are far below 64 bits: D, and the record number.
-- Assumes nothing.
use Prim.Native.Nat.{ℕ, ◌≤◌}
use mathlib.Core.Path.{◌≡◌}
use native.Mathlib.Omega.{arith}
use lib.ListN.{length}
use Rattle.numbers.specs.Limits.{most_cents}
use Rattle.rights.specs.Layout.{record_count}
use Rattle.rights.proofs.Faults.{faulty_within}
use Rattle.settlement.specs.Book.{Book}
use Rattle.settlement.specs.Events.{Call, hour_call, month_end_call, year_end_call, event_of, wants, demand, refusal, record_of}
use Rattle.settlement.proofs.Accepted.{hour_accepted}
use Rattle.settlement.proofs.NotSpoiled.{shortfalls_within}
use Rattle.settlement.proofs.Refusing.{event_clear, accepted_early}

pub demand_small : (call : Call) (book : Book) (places : ℕ) → refusal call book places ≡ 0 → demand call book ≤ most_cents
unfolding demand wants
demand_small (hour_call file prices collected) book places accepted = (hour_accepted file prices collected book places accepted).wants_most
demand_small month_end_call book places accepted =
    let sound = (event_clear (event_of month_end_call) book places (accepted_early month_end_call book places accepted)).0 in
    omega (arith, shortfalls_within book sound)
demand_small year_end_call book places accepted =
    let sound = (event_clear (event_of year_end_call) book places (accepted_early year_end_call book places accepted)).0 in
    omega (arith, shortfalls_within book sound)

-- ---- the record number

-- the records that a call is lent
abbrev pub records : Call → ℕ
records (hour_call file prices collected) = record_count file
records month_end_call = 0
records year_end_call = 0

pub record_within : (call : Call) (year number : ℕ) → record_of call year number ≤ records call
unfolding record_of
record_within (hour_call file prices collected) year number = faulty_within year (length prices) file number
record_within month_end_call year number = omega arith
record_within year_end_call year number = omega arith
