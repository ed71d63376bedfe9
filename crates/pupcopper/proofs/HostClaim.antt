-- A host's list of events makes the ledger of its calls, so that the claim holds of it.
-- Assumes nothing.
use Prim.Native.Nat.{ℕ}
use mathlib.Core.Path.{◌≡◌, refl, sym, ap, subst, ◌∙◌}
use mathlib.Core.Bool.{Bool, true, false, cond}
use mathlib.Core.List.{List, [], ◌∷◌, map}
use native.Mathlib.Decide.{ℕ_discrete}
use native.Mathlib.Omega.{arith}
use lib.Dec.{ltb}
use lib.ListN.{length}
use lib.IntN.{ℤ, pos}
use Rattle.numbers.specs.Signs.{positive}
use Rattle.numbers.specs.Refusals.{answer_by}
use Rattle.numbers.proofs.Refusals.{answer_accepted, answer_refused}
use Rattle.settlement.specs.Book.{Book, fresh}
use Rattle.settlement.specs.ByOwner.{laid_out}
use Rattle.settlement.proofs.ByOwner.{laid_long, read_long}
use Rattle.settlement.specs.Events.{Call, fund, demand, book_after, lines, refusal, record_of, Answered}
use Rattle.settlement.specs.Ledger.{asked, book_at, ledger_of, IsLedger}
use Rattle.settlement.specs.Claim.{Claim}
use Rattle.settlement.proofs.ClaimHolds.{claim, kept_all}
use Rattle.settlement.proofs.Opening.{opened_fresh}
use Rattle.calendar.specs.Almanac.{is_outside}
use Rattle.settlement.proofs.OneLedger.{book_at_start, book_at_entry, only_ledger}
use Rattle.settlement.proofs.Kept.{kept_fresh}
use Rattle.settlement.proofs.SameCells.{long_after}
use Rattle.pupcopper.specs.BookWords.{BookWords, year_in, counts_of, balances_of, words_of, kept_from, book_from, is_no_book, is_wrong_count, is_wrong_mark}
use Rattle.pupcopper.specs.Calls.{number_of, is_wrong_report, settled_words, settled_report, event_refusal, words_opened, Settles}
use Rattle.pupcopper.specs.HostLedger.{HostEntry, words_at, IsHostList, word_in, entry_of, host_ledger}
use Rattle.pupcopper.proofs.BothWays.{book_back}
use Rattle.pupcopper.proofs.WordRows.{dated_words, opened_written, wrong_report, good_words}

-- words that are a book's
record Good (words : BookWords) : Type 0 where
  pub counted : is_wrong_count words ≡ false
  pub marked : is_wrong_mark words ≡ false

-- those of any book are
words_good : (book : Book) → Good (words_of (laid_out book))
unfolding counts_of balances_of
words_good book =
    record {
      counted = ap (λ (cells : ℕ). is_no_book 4 cells 2) (laid_long book.monthshort book.yearshort);
      marked = by_mark book.ended;
    }
  where
    by_mark : (ended : Bool) → ltb 1 (cond ended 1 0) ≡ false
    by_mark true = refl
    by_mark false = refl

-- ---- one call

module _ (entry : HostEntry) (words : BookWords) (good : Good words)
    (settles : Settles entry.call words entry.report entry.lent entry.number entry.words entry.reported entry.written)
  where
    abbrev call : Call
    call = entry.call

    abbrev book : Book
    book = book_from words

    abbrev number : ℕ
    number = entry.number

    -- with a report of another length nothing changes
    unchanged : is_outside (year_in words) ≡ false → is_wrong_report settled_words (length entry.report) ≡ true → entry.words ≡ words
    unfolding event_refusal
    unchanged within wrong =
        let own = wrong_report true settled_words words (length entry.report) (dated_words words good.counted) within good.counted wrong in
        let is_4 = settles.number ∙ ap (λ (n : ℕ). number_of n (refusal call book (length entry.lent))) (sym own) in
        settles.gives_book ∙ answer_refused number (words_of (laid_out (book_after call book))) words (λ z. omega (arith, is_4, z))

    module _ (within : is_outside (year_in words) ≡ false) (fits : is_wrong_report settled_words (length entry.report) ≡ false) where
      number_is : number ≡ refusal call book (length entry.lent)
      unfolding event_refusal
      number_is =
          settles.number
          ∙ answer_accepted _ _ _ (sym (good_words true settled_words words (length entry.report) (dated_words words good.counted) within good.counted fits good.marked))

      by_number : {A : Type 0} (accepted refused : A)
          → answer_by number accepted refused ≡ answer_by (refusal call book (length entry.lent)) accepted refused
      by_number accepted refused = ap (λ (n : ℕ). answer_by n accepted refused) number_is

      book_is : book_from entry.words ≡ answer_by number (book_after call book) book
      book_is = by_test (ℕ_discrete number 0)
        where
          by_test : Dec (number ≡ 0) → book_from entry.words ≡ answer_by number (book_after call book) book
          by_test (yes z) =
              ap book_from (settles.gives_book ∙ answer_accepted number (words_of (laid_out (book_after call book))) words z)
              ∙ book_back (book_after call book) (long_after call book (read_long (kept_from words)))
              ∙ sym (answer_accepted number (book_after call book) book z)
          by_test (no some) =
              ap book_from (settles.gives_book ∙ answer_refused number (words_of (laid_out (book_after call book))) words some)
              ∙ sym (answer_refused number (book_after call book) book some)

      -- the report's three words
      report_is : entry.reported ≡ settled_report (record_of call (year_in words) number) (answer_by number (fund call book) (pos 0)) (answer_by number (demand call book) 0)
      report_is =
          settles.reports
          ∙ ap (λ (wrong : Bool). cond wrong entry.report (settled_report (record_of call (year_in words) number) (answer_by number (fund call book) (pos 0)) (answer_by number (demand call book) 0))) fits

      word_is : (place : ℕ)
          → word_in entry.reported place
          ≡ word_in (settled_report (record_of call (year_in words) number) (answer_by number (fund call book) (pos 0)) (answer_by number (demand call book) 0)) place
      word_is place = ap (λ (r : List ℤ). word_in r place) report_is

      -- the call is an entry on the book that the words stand for
      is_entry : Answered call book entry.lent (entry_of entry).result entry.written
      unfolding kept_from
      is_entry =
          record {
            gives =
                λ i.
                record {
                  refusal = number_is i;
                  faulty = (ap positive (word_is 0) ∙ ap (record_of call (year_in words)) number_is) i;
                  fund = (word_is 1 ∙ by_number (fund call book) (pos 0)) i;
                  demand = (ap positive (word_is 2) ∙ by_number (demand call book) 0) i;
                  book = (book_is ∙ by_number (book_after call book) book) i;
                };
            writes = settles.writes_lines ∙ by_number (lines call book) entry.lent;
          }

    -- and the words after it are a book's
    good_after : Good entry.words
    good_after = by_test (ℕ_discrete number 0)
      where
        by_test : Dec (number ≡ 0) → Good entry.words
        by_test (yes z) =
            subst (λ (w : BookWords). Good w)
            (sym (settles.gives_book ∙ answer_accepted number (words_of (laid_out (book_after call book))) words z)) (words_good (book_after call book))
        by_test (no some) =
            subst (λ (w : BookWords). Good w)
            (sym (settles.gives_book ∙ answer_refused number (words_of (laid_out (book_after call book))) words some)) good

-- ---- the whole list

module _ (year : ℕ) (in_range : is_outside year ≡ false) where
  -- what a list of calls keeps: its words are a book's, its ledger is one, and ends in the book that the words stand for
  record HostKept (list : List HostEntry) : Type 0 where
    pub sound : Good (words_at year list)
    pub same : book_at year (host_ledger list) ≡ book_from (words_at year list)
    pub ledger : IsLedger year (host_ledger list)

  -- the words have the year of the list
  within : (list : List HostEntry) → HostKept list → is_outside (year_in (words_at year list)) ≡ false
  unfolding kept_from
  within list kept =
      let is = sym (ap (λ (b : Book). b.year) kept.same) ∙ (kept_all year in_range (host_ledger list) kept.ledger).same_year in
      ap is_outside is ∙ in_range

  host_next : (entry : HostEntry) (past : List HostEntry) → HostKept past
      → Settles entry.call (words_at year past) entry.report entry.lent entry.number entry.words entry.reported entry.written
      → HostKept (entry ∷ past)
  unfolding words_at host_ledger
  host_next entry past kept settles =
      record {
        sound = good_after entry (words_at year past) kept.sound settles;
        same = same_next (is_wrong_report settled_words (length entry.report)) refl;
        ledger = more_next (is_wrong_report settled_words (length entry.report)) refl;
      }
    where
      same_next : (wrong : Bool) → is_wrong_report settled_words (length entry.report) ≡ wrong
          → book_at year (cond wrong (host_ledger past) (entry_of entry ∷ host_ledger past)) ≡ book_from entry.words
      same_next true wrong =
          kept.same ∙ ap book_from (sym (unchanged entry (words_at year past) kept.sound settles (within past kept) wrong))
      same_next false fits = book_at_entry year (entry_of entry) (host_ledger past)

      more_next : (wrong : Bool) → is_wrong_report settled_words (length entry.report) ≡ wrong
          → IsLedger year (cond wrong (host_ledger past) (entry_of entry ∷ host_ledger past))
      more_next true wrong = kept.ledger
      more_next false fits = (
        subst (λ (b : Book). Answered entry.call b entry.lent (entry_of entry).result entry.written) (sym kept.same)
            (is_entry entry (words_at year past) kept.sound settles (within past kept) fits),
        kept.ledger,
      )

  host_kept : (list : List HostEntry) → IsHostList year list → HostKept list
  unfolding words_at host_ledger
  host_kept [] settled =
      let start = (kept_fresh year in_range).long in
      record {
        sound = words_good (fresh year);
        same = book_at_start year ∙ sym (book_back (fresh year) start);
        ledger = tt;
      }
  host_kept (entry ∷ past) settled = host_next entry past (host_kept past settled.1) settled.0

  -- what a host reads off its calls is the ledger of those calls, so the claim holds of it; and its book is the one that the words stand
  -- for
  pub host_claim : (list : List HostEntry) → IsHostList year list
      → (host_ledger list ≡ ledger_of year (map asked (host_ledger list)))
      × Claim year (host_ledger list)
      × (book_at year (host_ledger list) ≡ book_from (words_at year list))
  host_claim list settled =
      let kept = host_kept list settled in
      let is = only_ledger year (map asked (host_ledger list)) (host_ledger list) kept.ledger refl in
      (is, subst (Claim year) (sym is) (claim year in_range (map asked (host_ledger list))), kept.same)

  -- an accepted opening leaves the words that such a list begins with
  pub opened_words : (words : BookWords) → is_wrong_count words ≡ false → words_opened year words ≡ words_at year []
  unfolding words_at
  opened_words words right = sym (opened_written year words right) ∙ ap (λ (b : Book). words_of (laid_out b)) (opened_fresh year in_range)
