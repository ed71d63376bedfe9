-- What the words of a book and of a report call for before there is a book, row by row, and the lengths of words that are a book's.
-- Assumes nothing.
use Prim.Native.Nat.{ℕ, ◌<◌}
use mathlib.Core.Path.{◌≡◌, refl, sym, ap, subst, ◌∙◌}
use mathlib.Core.Bool.{Bool, true, false, cond, ◌&&◌}
use mathlib.Core.Logic.{inl, inr}
use mathlib.Core.List.{List, [], ◌∷◌}
use native.Mathlib.Omega.{arith}
use lib.Dec.{eqb}
use lib.ListN.{length}
use borrow.Author.Tests.{eqb-true, eq-eqb, not-false, lt-ltb, le-ltb}
use Rattle.std.proofs.lemmas.Int.{to_z-of_z}
use Rattle.std.specs.Prelude.{Result, Ok, Err}
use Rattle.numbers.specs.declared.refusal.Refusal.{Refusal}
use Rattle.numbers.specs.Refusals.{Row, ◌if◌, first_refusal, answered, number_in, refusal_of}
use Rattle.numbers.proofs.Booleans.{both_true}
use Rattle.numbers.proofs.Refusals.{refusal_none, refusal_here, refusal_next, refusal_clear, refusal_never, answered_err, answered_ok, number_back, number_answered, IsNumber, is_number}
use Rattle.pupcopper.specs.BookWords.{BookWords, words_of, kept_from, year_in, has_no_year, count_words, balance_words, is_wrong_count, is_wrong_mark}
use Rattle.pupcopper.specs.Calls.{is_wrong_report, words_refusal, open_refusal, words_opened}
use Rattle.pupcopper.proofs.ReportWords.{report_fits, report_wrong}
use Rattle.calendar.specs.Almanac.{is_outside}
use Rattle.settlement.specs.declared.Book.{Book as ByOwner}
use Rattle.settlement.specs.Book.{year_refusal, opened}
use Rattle.settlement.specs.ByOwner.{cell_count, laid_out}
use Rattle.settlement.proofs.Opening.{opening_accepted, opening_refused, opening_number}

-- so many words are a book's
pub record Long (words : BookWords) : Type 0 where
  pub counts : length words.counts ≡ count_words
  pub shortfalls : length words.shortfalls ≡ cell_count
  pub balances : length words.balances ≡ balance_words

pub long : (words : BookWords) → is_wrong_count words ≡ false → Long words
long words right =
    let counted = eqb (length words.counts) count_words in
    let celled = eqb (length words.shortfalls) cell_count in
    let summed = eqb (length words.balances) balance_words in
    let all = both_true (counted && celled) summed (not-false (counted && celled && summed) right) in
    let two = both_true counted celled all.0 in
    record {
      counts = eqb-true _ _ two.0;
      shortfalls = eqb-true _ _ two.1;
      balances = eqb-true _ _ all.1;
    }

-- and have a year
pub dated_words : (words : BookWords) → is_wrong_count words ≡ false → has_no_year words ≡ false
dated_words words right = rw (eq-eqb (length words.counts) count_words (long words right).counts)

-- opening a book: 15 before 4
module _ (year : ℕ) (words : BookWords) where
  pub open_wrong : {number : ℕ} → is_wrong_count words ≡ true → number ≡ cond (is_outside year) 15 4 → number ≡ open_refusal year words
  unfolding open_refusal first_refusal
  open_wrong wrong is = rw wrong is

  pub open_right : is_wrong_count words ≡ false → year_refusal year ≡ open_refusal year words
  unfolding open_refusal
  open_right right = by_test (is_outside year) refl
    where
      by_test : (outside : Bool) → is_outside year ≡ outside → year_refusal year ≡ first_refusal ((15 if is_outside year) ∷ (4 if is_wrong_count words) ∷ [])
      by_test true e = opening_refused year e ∙ sym (refusal_here 15 _ e)
      by_test false e = opening_accepted year e ∙ sym (refusal_next 15 _ e ∙ refusal_next 4 [] right ∙ refusal_none)

  -- what is written
  pub opened_kept : is_wrong_count words ≡ true → words ≡ words_opened year words
  opened_kept wrong = rw wrong

  pub opened_written : is_wrong_count words ≡ false → words_of (laid_out (opened year)) ≡ words_opened year words
  opened_written right = rw right

pub ruleset open_laws = (open_wrong, open_right, opened_kept, opened_written, number_answered, opening_number)

-- ---- an event's words, row by row

module _ (dated : Bool) (places : ℕ) (words : BookWords) (report : ℕ) where
  pub wrong_counts : has_no_year words ≡ true → 4 ≡ words_refusal dated places words report
  unfolding words_refusal
  wrong_counts wrong = sym (refusal_here 4 _ wrong)

  module _ (counted : has_no_year words ≡ false) where
    pub wrong_year : (dated && is_outside (year_in words)) ≡ true → 15 ≡ words_refusal dated places words report
    unfolding words_refusal
    wrong_year outside = sym (refusal_next 4 _ counted ∙ refusal_here 15 _ outside)

    module _ (within : (dated && is_outside (year_in words)) ≡ false) where
      -- the rows behind the year
      abbrev later : List Row
      later =
          (4 if is_wrong_count words)
          ∷ (4 if is_wrong_report places report)
          ∷ (1 if is_wrong_mark words)
          ∷ []

      from_later : words_refusal dated places words report ≡ first_refusal later
      unfolding words_refusal
      from_later = refusal_next 4 _ counted ∙ refusal_next 15 _ within

      pub wrong_count : is_wrong_count words ≡ true → 4 ≡ words_refusal dated places words report
      wrong_count wrong = sym (from_later ∙ refusal_here 4 _ wrong)

      module _ (right : is_wrong_count words ≡ false) where
        pub wrong_report : is_wrong_report places report ≡ true → 4 ≡ words_refusal dated places words report
        wrong_report wrong = sym (from_later ∙ refusal_next 4 _ right ∙ refusal_here 4 _ wrong)

        module _ (fits : is_wrong_report places report ≡ false) where
          pub wrong_mark : is_wrong_mark words ≡ true → 1 ≡ words_refusal dated places words report
          wrong_mark wrong = sym (from_later ∙ refusal_next 4 _ right ∙ refusal_next 4 _ fits ∙ refusal_here 1 _ wrong)

          pub good_words : is_wrong_mark words ≡ false → 0 ≡ words_refusal dated places words report
          good_words good =
              sym (from_later ∙ refusal_next 4 _ right ∙ refusal_next 4 _ fits ∙ refusal_next 1 _ good ∙ refusal_none)

  -- none of them: the words are a book's, and the report has its places
  pub words_clear : words_refusal dated places words report ≡ 0
      → (is_wrong_count words ≡ false) × (is_wrong_report places report ≡ false) × (is_wrong_mark words ≡ false)
  unfolding words_refusal
  words_clear clear =
      let r1 = refusal_clear 4 (has_no_year words) _ (omega arith) clear in
      let r2 = refusal_clear 15 (dated && is_outside (year_in words)) _ (omega arith) r1.1 in
      let r3 = refusal_clear 4 (is_wrong_count words) _ (omega arith) r2.1 in
      let r4 = refusal_clear 4 (is_wrong_report places report) _ (omega arith) r3.1 in
      let r5 = refusal_clear 1 (is_wrong_mark words) [] (omega arith) r4.1 in
      (r3.0, r4.0, r5.0)

  -- each of their numbers is a refusal's, and none names a record
  pub words_number : IsNumber (words_refusal dated places words report)
  unfolding words_refusal
  words_number = is_number _ refl

  pub words_not_7 : words_refusal dated places words report ≡ 7 → ⊥
  unfolding words_refusal
  words_not_7 is = refusal_never 7 _ (omega arith) refl is

  pub words_not_8 : words_refusal dated places words report ≡ 8 → ⊥
  unfolding words_refusal
  words_not_8 is = refusal_never 8 _ (omega arith) refl is

-- row by row, by the tests
pub ruleset rows = (wrong_counts, wrong_year, wrong_count, wrong_report, wrong_mark, good_words, report_fits, report_wrong, lt-ltb, le-ltb, to_z-of_z)

-- what is answered for words that are read from lent slices, told of the words in the slices
module _ (dated : Bool) (places : ℕ) (words : BookWords) (report : ℕ) {read : BookWords} (same : read ≡ words) where
  abbrev table : ℕ
  table = words_refusal dated places words report

  told : {outcome : Result ByOwner Refusal} → outcome ≡ answered (words_refusal dated places read report) 0 (kept_from read)
      → outcome ≡ answered table 0 (kept_from words)
  told {outcome} is = subst (λ (w : BookWords). outcome ≡ answered (words_refusal dated places w report) 0 (kept_from w)) same is

  -- a book: the words call for no refusal, and it is the one that they stand for
  pub given_book : {book : ByOwner} → Ok book ≡ answered (words_refusal dated places read report) 0 (kept_from read) → (table ≡ 0) × (book ≡ kept_from words)
  given_book is = answered_ok _ 0 _ (sym (told is))

  -- a refusal: its number is the table's, and not 0
  pub refused_number : {why : Refusal} → Err why ≡ answered (words_refusal dated places read report) 0 (kept_from read)
      → (number_in why ≡ table) × (0 < table)
  refused_number is =
      let refused = answered_err table 0 _ (sym (told is)) in
      (ap number_in refused.1 ∙ has_number (words_number dated places words report) refused.0, refused.0)
    where
      has_number : IsNumber table → 0 < table → number_in (refusal_of table 0) ≡ table
      has_number (inl none) some = absurd (omega arith)
      has_number (inr has) some = number_back table 0 has
