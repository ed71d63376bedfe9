-- A rights file that cannot be read has no bytes that a run sees; and the book that the program opens.
-- Assumes nothing.
use Prim.Native.Nat.{ℕ}
use mathlib.Core.Path.{◌≡◌, refl, sym}
use mathlib.Core.Bool.{Bool, true, false, cond}
use Rattle.std.specs.Prelude.{Some, None}
use Rattle.numbers.specs.Refusals.{first_refusal}
use Rattle.settlement.specs.Book.{fresh, opened}
use Rattle.settlement.proofs.Opening.{opened_fresh}
use Rattle.settlement_run.specs.Run.{program_year, opening_refusal, opening}
use Rattle.settlement_run.specs.Calls.{begun, begun_over}

pub unread_unseen : (bytes : ℕ) → begun false bytes ≡ begun_over None
unfolding opening opening_refusal first_refusal
unread_unseen bytes = refl

-- so a file whose bytes are told only if it can be read begins every run
pub begun_as : (readable : Bool) (bytes : ℕ) → begun_over (cond readable (Some bytes) None) ≡ begun readable bytes
begun_as true bytes = refl
begun_as false bytes = sym (unread_unseen bytes)

-- the program's year is one of the calendar's
pub program_book : opened program_year ≡ fresh program_year
program_book = opened_fresh program_year refl
