-- Where a run stands: its book, laid out by owner, is read off and laid out again.
-- Assumes nothing.
use Prim.Native.Nat.{ℕ}
use mathlib.Core.Path.{◌≡◌, refl, sym, ap}
use mathlib.Core.Bool.{Bool, false}
use mathlib.Core.List.{List, []}
use Rattle.numbers.specs.Limits.{owners}
use Rattle.settlement.specs.Book.{Book}
use Rattle.settlement.specs.Events.{Call, refusal, book_after}
use Rattle.settlement.proofs.ByOwner.{read_back, laid_back, read_long}
use Rattle.settlement.proofs.SameCells.{fresh_long, long_after}
use Rattle.settlement.proofs.Shares.{IsLong}
use Rattle.settlement_run.specs.declared.Run.{Run}
use Rattle.settlement_run.specs.Run.{Part, stops, program_year, opening}
use Rattle.settlement_run.specs.Calls.{begun, standing, run_at, stepped}
use Rattle.settlement_run.specs.InnerContracts.{ending, HasCells}
use Rattle.settlement_run.proofs.BookAfter.{then_keeps, part_keeps}

-- a run whose book has its 128 cells stands where it stood, told of the room and of the end of its text
pub told_back : (run : Run) {full found : Bool} {end at : ℕ} → HasCells run → full ≡ found → end ≡ at
    → ◌≡◌ {A = Run}
    (record { full = full; end = end; refusal = run.refusal; tag = run.tag; number = run.number; faulty = run.faulty; book = run.book })
    (run_at (standing run) found at)
told_back run all is ends =
    λ i.
    record {
      full = is i;
      end = ends i;
      refusal = run.refusal;
      tag = run.tag;
      number = run.number;
      faulty = run.faulty;
      book = sym (laid_back run.book all) i;
    }

pub put_back : (run : Run) → HasCells run → run_at (standing run) run.full run.end ≡ run
put_back run all = sym (told_back run all refl refl)

-- a part whose book has a cell for each owner
pub read_at : (part : Part) (full : Bool) (end : ℕ) → IsLong part.book → standing (run_at part full end) ≡ ending part
read_at part full end long = ap (stops [] part.refusal part.tag part.number part.faulty) (read_back part.book long)

-- before the first block
pub begun_stands : (readable : Bool) (bytes : ℕ) → standing (begun readable bytes) ≡ ending (opening readable bytes)
unfolding opening
begun_stands readable bytes = read_at (opening readable bytes) false 0 (fresh_long program_year)

-- what comes of a block has a book with a cell for each owner
pub stepped_long : (file block : List ℕ) (run : Run) → IsLong (stepped file block run).book
stepped_long file block run =
    then_keeps IsLong keeps (standing run) _ (read_long run.book) (part_keeps IsLong keeps file block)
  where
    keeps : (call : Call) (book : Book) → refusal call book owners ≡ 0 → IsLong book → IsLong (book_after call book)
    keeps call book accepted long = long_after call book long
