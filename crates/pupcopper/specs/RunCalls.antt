-- What the calls of a run give to a host that keeps the book's words and the text: a step on the next block, the closing.
-- Assumes nothing.
use Rattle.std.specs.Prelude.{ℕ, ◌≡◌, true, false, cond, List, [], ◌∷◌, length}
use Rattle.numbers.specs.Refusals.{answer_by}
use Rattle.statement_text.specs.Buffer.{text_after}
use Rattle.statement_text.specs.Text.{line_room}
use Rattle.settlement.specs.Book.{Book}
use Rattle.settlement_run.specs.declared.Run.{Run}
use Rattle.settlement_run.specs.Run.{stops}
use Rattle.settlement_run.specs.Calls.{run_at, stepped_run, stepped_text, last_text, closed}
use Rattle.pupcopper.specs.BookWords.{BookWords, words_of, book_from}
use Rattle.pupcopper.specs.Calls.{number_of, is_wrong_report, words_refusal}

-- the run that stands at a book, with the refusal that stopped it or 0, and the end of its text
abbrev pub run_of : Book → ℕ → ℕ → Run
run_of book refusal end = run_at (stops [] refusal 0 0 0 book) false end

-- the same at the book that a host's words stand for
abbrev pub run_from : BookWords → ℕ → ℕ → Run
run_from words refusal end = run_of (book_from words) refusal end

-- a step's report: 1 if there was too little room, the end of the text, the refused event's letter and number, the record number
abbrev pub stepped_words : ℕ
stepped_words = 5

abbrev pub stepped_report : Run → List ℕ
stepped_report run = cond run.full 1 0 ∷ run.end ∷ run.tag ∷ run.number ∷ run.faulty ∷ []

-- the closing's report: 1 if there was too little room, the end of the text
abbrev pub closed_words : ℕ
closed_words = 2

abbrev pub closed_report : Run → List ℕ
closed_report run = cond run.full 1 0 ∷ run.end ∷ []

-- a report, if it has its places
abbrev pub reported : ℕ → List ℕ → List ℕ → List ℕ
reported places before report = cond (is_wrong_report places (length before)) before report

-- a step: the library's on the run that stands at the host's words; that run itself where the words are refused
abbrev pub host_step : List ℕ → List ℕ → BookWords → List ℕ → ℕ → ℕ → Run
host_step file block words before end report =
    answer_by (words_refusal true stepped_words words report) (stepped_run file block (run_from words 0 end) before) (run_from words 0 end)

-- what it promises, for any words, any bytes as rights and as block, any text, any end and any report
pub record HostSteps (file block : List ℕ) (words : BookWords) (before : List ℕ) (end : ℕ) (report : List ℕ) (given : ℕ)
    (words_after : BookWords) (after report_after : List ℕ) : Type 0 where
  pub number : given
      ≡ number_of (words_refusal true stepped_words words (length report)) (host_step file block words before end (length report)).refusal
  pub reports : report_after ≡ reported stepped_words report (stepped_report (host_step file block words before end (length report)))
  pub gives_book : words_after
      ≡ answer_by (words_refusal true stepped_words words (length report)) (words_of (host_step file block words before end (length report)).book) words
  pub writes : after
      ≡ answer_by (words_refusal true stepped_words words (length report)) (stepped_text file block (run_from words 0 end) before) before

-- the closing: the last line of the run that stands at the host's words, with the refusal that stopped it or 0
abbrev pub closing_run : BookWords → ℕ → List ℕ → ℕ → ℕ → Run
closing_run words refusal before end report =
    answer_by (words_refusal false closed_words words report) (closed (run_from words refusal end) before) (run_from words refusal end)

abbrev pub closing_text : BookWords → ℕ → List ℕ → ℕ → ℕ → List ℕ
closing_text words refusal before end report =
    answer_by (words_refusal false closed_words words report) (text_after line_room (last_text (run_from words refusal end)) before end) before
