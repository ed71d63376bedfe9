-- A step over the words of a book that is refused by its words.
-- Assumes nothing.
use Prim.Native.Nat.{ℕ, ◌<◌}
use mathlib.Core.Path.{◌≡◌, sym, ap, ◌∙◌}
use mathlib.Core.List.{List}
use native.Mathlib.Omega.{arith}
use lib.ListN.{length}
use Rattle.numbers.proofs.Refusals.{answer_refused}
use Rattle.settlement.specs.Book.{opened}
use Rattle.settlement_run.specs.declared.Run.{Run}
use Rattle.pupcopper.specs.BookWords.{BookWords}
use Rattle.pupcopper.specs.Calls.{words_refusal}
use Rattle.pupcopper.proofs.WordRows.{given_book, refused_number, words_clear}
use Rattle.pupcopper.specs.RunCalls.{HostSteps, reported, run_from, run_of, stepped_report, stepped_words}
use mathlib.Core.Bool.{true}

-- a step that is refused by its words: the run that stands at them is told, and nothing else is written
pub refused_step : (file block : List ℕ) (words : BookWords) (before : List ℕ) (end : ℕ) (report : List ℕ) {given : ℕ} {report_after : List ℕ}
    → given ≡ words_refusal true stepped_words words (length report) → 0 < words_refusal true stepped_words words (length report)
    → report_after ≡ reported stepped_words report (stepped_report (run_of (opened 0) 0 end))
    → HostSteps file block words before end report given words before report_after
refused_step file block words before end report is some told =
    record {
      number = is ∙ sym (answer_refused own _ own none);
      reports = told ∙ ap (λ (r : Run). reported stepped_words report (stepped_report r)) (sym (answer_refused own _ (run_from words 0 end) none));
      gives_book = sym (answer_refused own _ words none);
      writes = sym (answer_refused own _ before none);
    }
  where
    own : ℕ
    own = words_refusal true stepped_words words (length report)

    none : own ≡ 0 → ⊥
    none z = omega arith

-- for a step that is refused by its words and one of the run that they stand for
pub ruleset step_laws = (refused_step, given_book, refused_number, words_clear)
