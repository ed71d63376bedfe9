-- For the contracts of inner functions alone, no part of what a call promises: the words in lent slices, the values that a right's fields hold,
-- and amounts that fit 64 bits with their sign.
-- Assumes nothing.
use Rattle.std.specs.Prelude.{ℕ, ◌^◌, ◌<◌, ◌≡◌, min, length}
use Rattle.rights.specs.declared.Right.{Right}
use Rattle.settlement.specs.Events.{Call, hour_call, month_end_call, year_end_call, Settled}
use Rattle.pupcopper.specs.BookWords.{BookWords, words_in}
use Rattle.pupcopper.specs.declared.book_words.BookWords.{BookWords as ReadBook}
use Rattle.pupcopper.specs.declared.book_words.LentBook.{LentBook}

-- the words in three slices, lent to be read
abbrev pub words_read : ReadBook → BookWords
words_read read = words_in read.counts.now read.shortfalls.now read.balances.now

-- the words in three slices, lent to be written
abbrev pub words_lent : LentBook → BookWords
words_lent lent = words_in lent.counts.now lent.shortfalls.now lent.balances.now

-- the bytes of rights that an event is lent
abbrev pub bytes_lent : Call → ℕ
bytes_lent (hour_call file prices collected) = length file
bytes_lent month_end_call = 0
bytes_lent year_end_call = 0

-- a right with each value that its field cannot hold made the largest that it can, which is no good value
abbrev pub held : Right → Right
held right =
    record {
      owner = min right.owner 65_535;
      source = min right.source 65_535;
      sink = min right.sink 65_535;
      kind = min right.kind 255;
      class = min right.class 255;
      size = min right.size 4_294_967_295;
      first = min right.first 65_535;
      last = min right.last 65_535;
    }

-- the same three slices, whatever their words
pub record SameSlices (before after : LentBook) : Type 0 where
  pub counts : after.counts.ghost_name ≡ before.counts.ghost_name
  pub shortfalls : after.shortfalls.ghost_name ≡ before.shortfalls.ghost_name
  pub balances : after.balances.ghost_name ≡ before.balances.ghost_name

-- the words of an event's report that have no sign
pub record ResultFits (result : Settled) : Type 0 where
  pub named : result.faulty < 2 ^ 63
  pub wanted : result.demand < 2 ^ 63
