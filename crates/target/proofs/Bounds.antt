-- The numbers that a target call and a row call are refused by: each is a refusal's, and 15 for a year outside the calendar's.
-- Assumes nothing.
use Prim.Native.Nat.{ℕ}
use mathlib.Core.Path.{◌≡◌}
use mathlib.Core.Bool.{Bool, true}
use mathlib.Core.List.{List}
use lib.ListN.{length}
use lib.IntN.{ℤ}
use Rattle.numbers.proofs.Refusals.{refusal_here, IsNumber, is_number}
use Rattle.calendar.specs.Almanac.{is_outside}
use Rattle.rights.proofs.Faults.{rows_numbers}
use Rattle.target.specs.Target.{early_rows, lent_rows, call_refusal}

pub call_number : (year : ℕ) (file : List ℕ) (prices : List ℤ) (hour : ℕ) (wrong : Bool) → IsNumber (call_refusal year file prices hour wrong)
unfolding call_refusal early_rows lent_rows
call_number year file prices hour wrong = is_number _ (rows_numbers year (length prices) file)

pub call_no_year : (year : ℕ) (file : List ℕ) (prices : List ℤ) (hour : ℕ) (wrong : Bool) → is_outside year ≡ true
    → call_refusal year file prices hour wrong ≡ 15
unfolding call_refusal early_rows
call_no_year year file prices hour wrong outside = refusal_here 15 _ outside
