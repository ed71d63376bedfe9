-- A fresh book has a cell for each owner, and the book after an event as many cells as before, for any book and any call.
-- Assumes nothing.
use Prim.Native.Nat.{ℕ}
use lib.ListN.{length-replicate}
use Rattle.numbers.specs.Limits.{owners}
use Rattle.numbers.proofs.Counts.{length_list_below}
use Rattle.settlement.specs.Book.{Book, fresh}
use Rattle.settlement.specs.Events.{Call, hour_call, month_end_call, year_end_call, unpaid_of, added_to, book_after}
use Rattle.settlement.proofs.Shares.{IsLong}

pub fresh_long : (year : ℕ) → IsLong (fresh year)
unfolding fresh
fresh_long year = record { month = length-replicate {A = ℕ} owners 0; year = length-replicate {A = ℕ} owners 0 }

pub long_after : (call : Call) (book : Book) → IsLong book → IsLong (book_after call book)
unfolding book_after added_to unpaid_of
long_after (hour_call file prices collected) book long = record { month = length_list_below _ owners; year = long.year }
long_after month_end_call book long = record { month = length-replicate {A = ℕ} owners 0; year = length_list_below _ owners }
long_after year_end_call book long = record { month = long.month; year = length_list_below _ owners }
