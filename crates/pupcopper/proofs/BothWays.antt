-- The layout of a book in words, one way and back: the words of a book are read as that book, and the words of the book that is read are
-- those words; and that of a right.
-- Assumes nothing.
use Prim.Native.Nat.{ℕ, zero, suc, ◌≤◌}
use mathlib.Core.Path.{◌≡◌, refl, ap, ◌∙◌}
use mathlib.Core.Bool.{Bool, true, false, cond}
use mathlib.Core.List.{[], ◌∷◌}
use native.Mathlib.Omega.{arith}
use lib.Dec.{eqb}
use lib.ListN.{get_or}
use lib.IntN.{pos}
use borrow.Author.Tests.{ltb-false}
use Rattle.numbers.specs.Lists.{list_below}
use Rattle.numbers.proofs.Counts.{list_of_elements}
use Rattle.settlement.specs.declared.Book.{Book as ByOwner}
use Rattle.settlement.specs.Book.{Book}
use Rattle.settlement.specs.ByOwner.{read_off, laid_out}
use Rattle.settlement.proofs.ByOwner.{read_back}
use Rattle.settlement.proofs.Shares.{IsLong}
use Rattle.rights.specs.declared.Right.{Right}
use Rattle.pupcopper.specs.Calls.{right_in, right_report}
use Rattle.pupcopper.specs.BookWords.{BookWords, words_in, counts_of, balances_of, words_of, kept_from, book_from, mark_in, is_wrong_count, is_wrong_mark}
use Rattle.pupcopper.proofs.WordRows.{Long, long}

-- ---- from a book to words and back

mark_back : (ended : Bool) → eqb (cond ended 1 0) 1 ≡ ended
mark_back true = refl
mark_back false = refl

pub kept_back : (kept : ByOwner) → kept_from (words_of kept) ≡ kept
unfolding counts_of balances_of kept_from
kept_back kept =
    λ i.
    record {
      year = kept.year;
      hours = kept.hours;
      months = kept.months;
      ended = mark_back kept.ended i;
      shortfalls = kept.shortfalls;
      monthbalance = kept.monthbalance;
      yearbalance = kept.yearbalance;
    }

-- a book of the rules with a cell for each owner
pub book_back : (book : Book) → IsLong book → book_from (words_of (laid_out book)) ≡ book
book_back book long = ap read_off (kept_back (laid_out book)) ∙ read_back book long

-- ---- from words to a book and back

mark_kept : (mark : ℕ) → mark ≤ 1 → cond (eqb mark 1) 1 0 ≡ mark
mark_kept zero small = refl
mark_kept (suc zero) small = refl
mark_kept (suc (suc n)) small = absurd (omega arith)

-- words of the right number, with a mark of 0 or 1
pub words_back : (words : BookWords) → is_wrong_count words ≡ false → is_wrong_mark words ≡ false
    → words_of (kept_from words) ≡ words
unfolding counts_of balances_of kept_from list_below
words_back words counted marked =
    λ i. words_in (counts i) words.shortfalls (balances i)
  where
    sized : Long words
    sized = long words counted

    counts : counts_of (kept_from words) ≡ words.counts
    counts =
        ap (λ (mark : ℕ). get_or words.counts 0 0 ∷ get_or words.counts 1 0 ∷ mark ∷ get_or words.counts 3 0 ∷ []) (mark_kept (mark_in words) (ltb-false 1 (mark_in words) marked))
        ∙ list_of_elements words.counts 0 sized.counts

    balances : balances_of (kept_from words) ≡ words.balances
    balances = list_of_elements words.balances (pos 0) sized.balances

-- ---- a right

-- the words that a read gives are those of its right, to be written
pub right_back : (right : Right) → right_in (right_report right) ≡ right
right_back right = refl
