-- A program that reads block by block: the calls as their contracts say, in turn, and the buffer written out in between.
-- Assumes nothing.
use Rattle.std.specs.Prelude.{ℕ, suc, ◌≤◌, ◌≡◌, Bool, true, false, ◌⊎◌, List, [], ◌++◌, length, take}
use Rattle.settlement_run.specs.declared.Run.{Run}
use Rattle.settlement_run.specs.Run.{block_at, block_count}
use Rattle.settlement_run.specs.Calls.{begun, stepped_run, stepped_text}

-- the same run, with nothing left in the buffer
abbrev pub emptied : Run → Run
emptied run =
    record {
      full = run.full;
      end = 0;
      refusal = run.refusal;
      tag = run.tag;
      number = run.number;
      faulty = run.faulty;
      book = run.book;
    }

-- after so many blocks: what is written out, the buffer, and the run
pub data UnderWay (readable : Bool) (file input : List ℕ) : ℕ → List ℕ → List ℕ → Run → Type 0 where
  -- the opening call, with any buffer
  opened : (buffer : List ℕ) → UnderWay readable file input 0 [] buffer (begun readable (length file))
  -- a step, on the next block
  stepped : {n : ℕ} {out before : List ℕ} {run : Run} → UnderWay readable file input n out before run
      → (stepped_run file (block_at input n) run before).full ≡ false
      → UnderWay readable file input (suc n) out (stepped_text file (block_at input n) run before) (stepped_run file (block_at input n) run before)
  -- a step that says that the buffer is full: the block is still to come
  waited : {n : ℕ} {out before : List ℕ} {run : Run} → UnderWay readable file input n out before run
      → (stepped_run file (block_at input n) run before).full ≡ true
      → UnderWay readable file input n out (stepped_text file (block_at input n) run before) (stepped_run file (block_at input n) run before)
  -- the text in the buffer is written out
  written_out : {n : ℕ} {out before : List ℕ} {run : Run} (after : List ℕ) → UnderWay readable file input n out before run
      → UnderWay readable file input n (out ++ take run.end before) after (emptied run)

-- the blocks are read to their end, or no further than where the run stopped
abbrev pub IsRead : List ℕ → ℕ → Run → Type 0
IsRead input n run = (n ≡ block_count input) ⊎ ((n ≤ block_count input) × (run.refusal ≡ 0 → ⊥))
