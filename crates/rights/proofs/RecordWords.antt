-- The fields cut from a record's two words are the layout's, and the bytes of the words that eight fields make are the layout's too and give the
-- fields back.
-- Assumes nothing.
use Prim.Native.Nat.{ℕ, ◌+◌, ◌*◌, ◌<◌, ◌≤◌, ◌^◌}
use mathlib.Core.Path.{◌≡◌, refl, sym, ap, ap₂, ◌∙◌}
use mathlib.Core.List.{List, [], ◌++◌, append_assoc}
use native.Mathlib.Nat.{add_assoc, add-zero, le_of_eq}
use native.Mathlib.Omega.{arith}
use lib.ListN.{get_or, length, length-append}
use Rattle.std.specs.Simd.{first_chunks}
use Rattle.numbers.specs.Lists.{list_below}
use Rattle.numbers.specs.Words.{AreBytes, bytes_of, part_of, word}
use Rattle.numbers.proofs.WordLaws.{append_bytes, are_bytes, bytes_join, bytes_length, bytes_whole, chunk_word, word_agree, word_before, word_behind, word_bytes, word_most, word_part}
use Rattle.rights.specs.declared.Right.{Right}
use Rattle.rights.specs.Layout.{laid_out, record_bytes, record_count, right_at, right_from}
use Rattle.rights.specs.RecordWords.{CutAsLaidOut, CutAsMade, InWidths, LaidOutAsGiven, LaidOutAsRead, LaidOutByWords, high_of, high_word, low_of, low_word, right_of}

-- each field is the part of a word that its own bytes make
pub cut_as_laid_out : CutAsLaidOut
cut_as_laid_out file at are =
    λ i.
    record {
      owner = word_part file are at 0 2 6 at (add-zero at) i;
      source = word_part file are at 2 2 4 (at + 2) refl i;
      sink = word_part file are at 4 2 2 (at + 4) refl i;
      kind = word_part file are at 6 1 1 (at + 6) refl i;
      class = word_part file are at 7 1 0 (at + 7) refl i;
      size = word_part file are (at + 8) 0 4 4 (at + 8) (add-zero (at + 8)) i;
      first = word_part file are (at + 8) 4 2 2 (at + 12) (add_assoc at 8 4) i;
      last = word_part file are (at + 8) 6 2 0 (at + 14) (add_assoc at 8 6) i;
    }

-- 16 bytes that agree make one right
pub right_agree : (xs ys : List ℕ) (a b : ℕ) → ((i : ℕ) → i < record_bytes → get_or xs (a + i) 0 ≡ get_or ys (b + i) 0) → right_from xs a ≡ right_from ys b
right_agree xs ys a b agree =
    λ i.
    record {
      owner = field 2 0 (omega arith) (add-zero a) (add-zero b) i;
      source = field 2 2 (omega arith) refl refl i;
      sink = field 2 4 (omega arith) refl refl i;
      kind = field 1 6 (omega arith) refl refl i;
      class = field 1 7 (omega arith) refl refl i;
      size = field 4 8 (omega arith) refl refl i;
      first = field 2 12 (omega arith) refl refl i;
      last = field 2 14 (omega arith) refl refl i;
    }
  where
    field : (n at : ℕ) {x y : ℕ} → at + n ≤ record_bytes → a + at ≡ x → b + at ≡ y → word n xs x ≡ word n ys y
    field = word_agree xs ys a b record_bytes agree

-- the right that is cut from the chunk of a number is the file's
module _ (file : List ℕ) (number : ℕ) (inside : number < record_count file) where
  abbrev chunk : List ℕ
  chunk = get_or (first_chunks record_bytes (record_count file) file) number []

  word_in : (n at : ℕ) {place : ℕ} → number * record_bytes + at ≡ place → at + n ≤ record_bytes → word n chunk at ≡ word n file place
  word_in n at here within = chunk_word file record_bytes (record_count file) number inside n at _ within here

  chunk_right : right_from chunk 0 ≡ right_at file number
  chunk_right =
      λ i.
      record {
        owner = word_in 2 0 (add-zero (number * record_bytes)) (omega arith) i;
        source = word_in 2 2 refl (omega arith) i;
        sink = word_in 2 4 refl (omega arith) i;
        kind = word_in 1 6 refl (omega arith) i;
        class = word_in 1 7 refl (omega arith) i;
        size = word_in 4 8 refl (omega arith) i;
        first = word_in 2 12 refl (omega arith) i;
        last = word_in 2 14 refl (omega arith) i;
      }

  pub cut_right : {chunks : List (List ℕ)} {right : Right} → chunks ≡ first_chunks record_bytes (record_count file) file
      → right ≡ right_from (get_or chunks number []) 0 → right ≡ right_at file number
  cut_right are cut = cut ∙ ap (λ (cs : List (List ℕ)). right_from (get_or cs number []) 0) are ∙ chunk_right

-- the fields cut from the words that they made
pub cut_as_made : CutAsMade
cut_as_made right in_widths =
    λ i.
    record {
      owner = let back : part_of 2 (low_of right) 0 ≡ right.owner = omega arith in back i;
      source = let back : part_of 2 (low_of right) 2 ≡ right.source = omega arith in back i;
      sink = let back : part_of 2 (low_of right) 4 ≡ right.sink = omega arith in back i;
      kind = let back : part_of 1 (low_of right) 6 ≡ right.kind = omega arith in back i;
      class = let back : part_of 1 (low_of right) 7 ≡ right.class = omega arith in back i;
      size = let back : part_of 4 (high_of right) 0 ≡ right.size = omega arith in back i;
      first = let back : part_of 2 (high_of right) 4 ≡ right.first = omega arith in back i;
      last = let back : part_of 2 (high_of right) 6 ≡ right.last = omega arith in back i;
    }

module _ (right : Right) (in_widths : InWidths right) where
  low_small : low_of right < 256 ^ 8
  low_small = omega arith

  high_small : high_of right < 256 ^ 8
  high_small = omega arith

  -- the bytes of each word are those of its fields, taken off from the top
  low_bytes : bytes_of 8 (low_of right)
      ≡ (((bytes_of 2 right.owner ++ bytes_of 2 right.source) ++ bytes_of 2 right.sink) ++ bytes_of 1 right.kind) ++ bytes_of 1 right.class
  low_bytes =
      bytes_join 7 1 (right.owner + right.source * 256 ^ 2 + right.sink * 256 ^ 4 + right.kind * 256 ^ 6) right.class (omega arith)
      ∙ ap (λ (l : List ℕ). l ++ bytes_of 1 right.class)
      (bytes_join 6 1 (right.owner + right.source * 256 ^ 2 + right.sink * 256 ^ 4) right.kind (omega arith)
      ∙ ap (λ (l : List ℕ). l ++ bytes_of 1 right.kind)
      (bytes_join 4 2 (right.owner + right.source * 256 ^ 2) right.sink (omega arith)
      ∙ ap (λ (l : List ℕ). l ++ bytes_of 2 right.sink) (bytes_join 2 2 right.owner right.source (omega arith))))

  high_bytes : bytes_of 8 (high_of right) ≡ (bytes_of 4 right.size ++ bytes_of 2 right.first) ++ bytes_of 2 right.last
  high_bytes =
      bytes_join 6 2 (right.size + right.first * 256 ^ 4) right.last (omega arith)
      ∙ ap (λ (l : List ℕ). l ++ bytes_of 2 right.last) (bytes_join 4 2 right.size right.first (omega arith))

-- so that the bytes of both are the layout's
pub laid_out_by_words : LaidOutByWords
unfolding laid_out
laid_out_by_words right in_widths =
    ap₂ (λ (low high : List ℕ). low ++ high) (low_bytes right in_widths) (high_bytes right in_widths) ∙ simp append_assoc refl

-- both, of words that are those of a right
module _ (right : Right) (in_widths : InWidths right) {low high : ℕ} (l : low ≡ low_of right) (h : high ≡ high_of right) where
  pub made_cut : right_of low high ≡ right
  made_cut = ap₂ right_of l h ∙ cut_as_made right in_widths

  pub made_bytes : bytes_of 8 low ++ bytes_of 8 high ≡ laid_out right
  made_bytes = ap₂ (λ (x y : ℕ). bytes_of 8 x ++ bytes_of 8 y) l h ∙ laid_out_by_words right in_widths

-- the words of the bytes are those that the fields made, so that the layout's fields are the fields cut from these
pub laid_out_as_given : LaidOutAsGiven
laid_out_as_given right in_widths =
    ap (λ (l : List ℕ). right_from l 0) (sym (laid_out_by_words right in_widths))
    ∙ sym (cut_as_laid_out (low ++ high) 0 (append_bytes low high (are_bytes 8 (low_of right)) (are_bytes 8 (high_of right))))
    ∙ ap₂ right_of
    (word_before low high 8 (le_of_eq (sym (bytes_length 8 (low_of right)))) ∙ bytes_whole 8 (low_of right) (low_small right in_widths))
    (word_behind low high 8 8 (bytes_length 8 (low_of right)) ∙ bytes_whole 8 (high_of right) (high_small right in_widths))
    ∙ cut_as_made right in_widths
  where
    low : List ℕ
    low = bytes_of 8 (low_of right)

    high : List ℕ
    high = bytes_of 8 (high_of right)

-- the words that a record's fields make are the record's own
low_of_lem : (file : List ℕ) (at : ℕ) → low_of (right_from file at) ≡ low_word file at
low_of_lem file at = simp (add-zero, add_assoc) (omega arith)

high_of_lem : (file : List ℕ) (at : ℕ) → high_of (right_from file at) ≡ high_word file at
high_of_lem file at = simp (add-zero, add_assoc) (omega arith)

-- a record's fields are in their widths
module _ (file : List ℕ) (are : AreBytes file) (at : ℕ) where
  in_widths_of : InWidths (right_from file at)
  in_widths_of =
      record {
        owner = word_most file are 2 at;
        source = word_most file are 2 (at + 2);
        sink = word_most file are 2 (at + 4);
        kind = word_most file are 1 (at + 6);
        class = word_most file are 1 (at + 7);
        size = word_most file are 4 (at + 8);
        first = word_most file are 2 (at + 12);
        last = word_most file are 2 (at + 14);
      }

-- so that their bytes are the record's
pub laid_out_as_read : LaidOutAsRead
unfolding list_below
laid_out_as_read file at are =
    sym (laid_out_by_words (right_from file at) (in_widths_of file are at))
    ∙ ap₂ (λ (low high : List ℕ). low ++ high)
    (ap (bytes_of 8) (low_of_lem file at) ∙ word_bytes file are at 8)
    (ap (bytes_of 8) (high_of_lem file at) ∙ word_bytes file are (at + 8) 8)
    ∙ simp add_assoc refl

-- a right has 16 bytes
pub laid_out_length : (right : Right) → length (laid_out right) ≡ record_bytes
unfolding laid_out
laid_out_length right = simp (length-append, bytes_length) refl
