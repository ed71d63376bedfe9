-- For the contracts of inner functions alone, no part of what an event promises: what a fund pays out to all owners, and what it refuses.
-- Assumes nothing.
use Rattle.std.specs.Prelude.{ℕ, ◌+◌, Bool, false, List, ℤ, Result, Ok, Err, ltb}
use Rattle.numbers.specs.Lists.{total}
use Rattle.numbers.specs.declared.refusal.Refusal.{Refusal}
use Rattle.numbers.specs.Refusals.{Row, number_in}
use Rattle.settlement.specs.declared.Funding.{Funding}
use Rattle.settlement.specs.declared.payment.Paid.{Paid}
use Rattle.settlement.specs.Events.{payout, unpaid_of, sum_rows}

-- F and D of a fund and wants
abbrev pub funding_of : ℤ → List ℕ → Funding
funding_of fund wants = record { fund = fund; demand = total wants }

-- what a fund pays out over the wants of all owners
abbrev pub paid_from : ℤ → List ℕ → Paid
paid_from fund wants =
    record {
      funding = funding_of fund wants;
      left = (payout fund wants).left;
      payments = (payout fund wants).payments;
      unpaid = unpaid_of wants (payout fund wants).payments;
    }

-- the rows of an hour's size, where all shortfalls before it come to the carry
abbrev pub carry_rows : ℕ → ℤ → List ℕ → ℕ → List Row
carry_rows carry fund wants charges = sum_rows (total wants) charges (carry + total (paid_from fund wants).unpaid)

-- a target call is refused by a number below 6
abbrev pub is_before_amount : Result (Unit {0}) Refusal → Bool
is_before_amount (Ok done) = false
is_before_amount (Err refusal) = ltb (number_in refusal) 6
