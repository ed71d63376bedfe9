-- A host's list of events, on the words that it keeps from call to call, and the ledger that it makes.
-- Assumes nothing.
use Rattle.std.specs.Prelude.{ℕ, cond, List, [], ◌∷◌, length, get_or, ℤ, pos}
use Rattle.numbers.specs.Signs.{positive}
use Rattle.settlement.specs.Book.{fresh}
use Rattle.settlement.specs.ByOwner.{laid_out}
use Rattle.settlement.specs.Events.{Call}
use Rattle.settlement.specs.Ledger.{Entry}
use Rattle.pupcopper.specs.BookWords.{BookWords, words_of, book_from}
use Rattle.pupcopper.specs.Calls.{is_wrong_report, settled_words, Settles}

-- a call of a host: the event, the report and the lines lent with it, its number, and the words, the report and the lines after it
pub record HostEntry : Type 0 where
  pub call : Call
  pub report : List ℤ
  pub lent : List ℤ
  pub number : ℕ
  pub words : BookWords
  pub reported : List ℤ
  pub written : List ℤ

-- the words after a list of calls, newest first: those of a fresh book of the year, and then those that the call before left
unfoldable pub words_at : ℕ → List HostEntry → BookWords
words_at year [] = words_of (laid_out (fresh year))
words_at year (entry ∷ past) = entry.words

-- each call is answered, as the calls' contracts say, on the words that the calls below it left
abbrev pub IsHostList : ℕ → List HostEntry → Type 0
IsHostList year [] = Unit {0}
IsHostList year (entry ∷ past) =
    Settles entry.call (words_at year past) entry.report entry.lent entry.number entry.words entry.reported entry.written
    × IsHostList year past

-- a word of a report
abbrev pub word_in : List ℤ → ℕ → ℤ
word_in report place = get_or report place (pos 0)

-- the entry of a ledger that a call makes: record number, F and D are those of its report, the book is the one that its words stand for
abbrev pub entry_of : HostEntry → Entry
entry_of entry =
    record {
      call = entry.call;
      lent = entry.lent;
      result =
          record {
            refusal = entry.number;
            faulty = positive (word_in entry.reported 0);
            fund = word_in entry.reported 1;
            demand = positive (word_in entry.reported 2);
            book = book_from entry.words;
          };
      written = entry.written;
    }

-- the ledger of a host's list; a call with a report of another length is refused before the library is called, and makes no entry
unfoldable pub host_ledger : List HostEntry → List Entry
host_ledger [] = []
host_ledger (entry ∷ past) =
    cond (is_wrong_report settled_words (length entry.report)) (host_ledger past) (entry_of entry ∷ host_ledger past)
