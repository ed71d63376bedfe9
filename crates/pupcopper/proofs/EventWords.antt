-- An event over the words of a book: refused by its words, or the event of the book that they stand for.
-- Assumes nothing.
use Prim.Native.Nat.{ℕ, ◌^◌, ◌<◌, ◌≤◌}
use mathlib.Core.Path.{◌≡◌, sym, ap, subst, ◌∙◌}
use mathlib.Core.Bool.{cond}
use mathlib.Core.List.{List}
use native.Mathlib.Decide.{ℕ_discrete}
use native.Mathlib.Omega.{arith}
use lib.ListN.{length}
use lib.IntN.{ℤ}
use Rattle.numbers.specs.Refusals.{answer_by}
use Rattle.numbers.proofs.Refusals.{answer_accepted, answer_refused}
use Rattle.std.specs.Prelude.{pos}
use Rattle.settlement.specs.declared.Book.{Book as ByOwner}
use Rattle.settlement.specs.Book.{Book}
use Rattle.settlement.specs.ByOwner.{laid_out}
use Rattle.settlement.specs.Events.{hour_call, month_end_call, year_end_call, Settled, settled, Call, fund, demand, book_after, lines, refusal, record_of, Answered}
use Rattle.settlement.proofs.Amounts.{records, demand_small, record_within}
use Rattle.settlement.proofs.Refusing.{record_other, gives_number, gives_record, gives_fund, gives_demand}
use Rattle.pupcopper.specs.BookWords.{BookWords, words_of, kept_from, book_from, year_in}
use Rattle.pupcopper.specs.Calls.{is_wrong_report, settled_report, settled_words, words_refusal, event_refusal, Settles}
use Rattle.pupcopper.specs.InnerContracts.{bytes_lent, ResultFits}
use Rattle.pupcopper.proofs.WordRows.{words_not_7, words_not_8}
use mathlib.Core.Bool.{true}

-- there are no more records than bytes
pub records_lent : (call : Call) → records call ≤ bytes_lent call
records_lent (hour_call file prices collected) = omega arith
records_lent month_end_call = omega arith
records_lent year_end_call = omega arith

-- the event of a book that the words stand for
pub of_words : (call : Call) (words : BookWords) {book : Book} {lent after : List ℤ} {result : Settled} → book ≡ book_from words
    → Answered call book lent result after → Answered call (book_from words) lent result after
of_words call words {lent = lent} {after = after} {result = result} is answered =
    subst (λ (b : Book). Answered call b lent result after) is answered

module _ (call : Call) (words : BookWords) (report lent : List ℤ) where
  abbrev own : ℕ
  own = words_refusal true settled_words words (length report)

  abbrev book : Book
  book = book_from words

  -- ---- refused by its words

  pub refused_event : (number : ℕ) (report_after : List ℤ) → number ≡ own → (number ≡ 0 → ⊥)
      → report_after ≡ cond (is_wrong_report settled_words (length report)) report (settled_report 0 (pos 0) 0)
      → Settles call words report lent number words report_after lent
  unfolding event_refusal
  refused_event number report_after is some written =
      record {
        number = is ∙ sym (answer_refused own _ own (λ z. some (is ∙ z)));
        reports = written ∙ ap (cond (is_wrong_report settled_words (length report)) report) zeros;
        gives_book = sym (answer_refused number _ words some);
        writes_lines = sym (answer_refused number _ lent some);
      }
    where
      not_7 : number ≡ 7 → ⊥
      not_7 e = words_not_7 true settled_words words (length report) (sym is ∙ e)

      not_8 : number ≡ 8 → ⊥
      not_8 e = words_not_8 true settled_words words (length report) (sym is ∙ e)

      zeros : settled_report 0 (pos 0) 0 ≡ settled_report (record_of call (year_in words) number) (answer_by number (fund call book) (pos 0)) (answer_by number (demand call book) 0)
      zeros =
          λ i.
          settled_report (sym (record_other call (year_in words) number not_7 not_8) i)
          (sym (answer_refused number (fund call book) (pos 0) some) i) (sym (answer_refused number (demand call book) 0 some) i)

  -- ---- the event of the book

  module _ (result : Settled) (lines_after : List ℤ) (answered : Answered call book lent result lines_after) where
    abbrev own_number : ℕ
    own_number = refusal call book (length lent)

    demand_fits : (accepted : Dec (own_number ≡ 0)) → result.demand < 2 ^ 63
    demand_fits (yes z) =
        omega
        (arith, demand_small call book (length lent) z, gives_demand answered ∙ answer_accepted own_number (demand call book) 0 z)
    demand_fits (no some) = omega (arith, gives_demand answered ∙ answer_refused own_number (demand call book) 0 some)

    pub result_fits : records call < 2 ^ 63 → ResultFits result
    result_fits few =
        record {
          named = omega (arith, gives_record answered, record_within call book.year own_number);
          wanted = demand_fits (ℕ_discrete own_number 0);
        }

    pub settled_event : (next : ByOwner) → next ≡ laid_out (settled call book (length lent)).book
        → (number : ℕ) (words_after : BookWords) (report_after : List ℤ) → own ≡ 0 → number ≡ result.refusal
        → report_after ≡ cond (is_wrong_report settled_words (length report)) report (settled_report result.faulty result.fund result.demand)
        → words_after ≡ answer_by number (words_of next) words
        → Settles call words report lent number words_after report_after lines_after
    unfolding event_refusal kept_from
    settled_event next laid number words_after report_after clear is written kept =
        record {
          number = same ∙ sym (answer_accepted own own_number own clear);
          reports =
              written
              ∙ ap (cond (is_wrong_report settled_words (length report)) report)
              (λ i. settled_report ((gives_record answered ∙ ap (record_of call (year_in words)) (sym same)) i) ((gives_fund answered ∙ by_number (fund call book) (pos 0)) i) ((gives_demand answered ∙ by_number (demand call book) 0) i));
          gives_book = kept ∙ words_of_lem (ℕ_discrete number 0);
          writes_lines = answered.writes ∙ by_number (lines call book) lent;
        }
      where
        same : number ≡ own_number
        same = is ∙ gives_number answered

        by_number : {A : Type 0} (accepted refused : A) → answer_by own_number accepted refused ≡ answer_by number accepted refused
        by_number accepted refused = ap (λ (n : ℕ). answer_by n accepted refused) (sym same)

        next_is : own_number ≡ 0 → next ≡ laid_out (book_after call book)
        next_is z = laid ∙ ap laid_out (answer_accepted own_number (book_after call book) book z)

        words_of_lem : Dec (number ≡ 0)
            → answer_by number (words_of next) words ≡ answer_by number (words_of (laid_out (book_after call book))) words
        words_of_lem (yes z) = ap (λ (b : ByOwner). answer_by number (words_of b) words) (next_is (sym same ∙ z))
        words_of_lem (no some) = answer_refused number _ words some ∙ sym (answer_refused number _ words some)
