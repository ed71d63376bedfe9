-- Words, parts of words and bytes: a word is made of two shorter ones, a part of a word is the word of its own bytes, and the bytes of a
-- number make it again.
-- Assumes nothing.
use Prim.Native.Nat.{ℕ, zero, suc, ◌+◌, ◌-◌, ◌*◌, ◌/◌, ◌%◌, ◌^◌, ◌≤◌, ◌<◌}
use mathlib.Core.Path.{◌≡◌, refl, sym, ap, ap₂, subst, ◌∙◌}
use mathlib.Core.Bool.{Bool, true, false}
use mathlib.Core.List.{List, [], ◌∷◌, ◌++◌}
use native.Mathlib.Nat.{add-mul-div_right, add-zero, add-suc, add_assoc, add_comm, add-mul, add-sub_of_le, mul_assoc, mul_comm, div-div-eq-div-mul, div-one, mod-eq_of_lt, mod-lt, mod-one, le_of_suc-le-suc, not-suc-le-zero, one-le-pow, pow-suc, pow-zero, zero-add, zero-lt-suc, zero-mul}
use native.Mathlib.Omega.{arith}
use lib.Arith.{digits_div, digits_lt, digits_mod, mod-mul}
use lib.Dec.{leb}
use lib.ListN.{get_or, length, take, drop, get_or-append}
use lib.Pow.{pow-add}
use lib.Seq.{get_or-append-add, get_or-take}
use borrow.Author.Tests.{leb-true, leb-false}
use Rattle.std.specs.Int.{from_le_bytes, to_le_bytes, w32, w64}
use Rattle.std.specs.Simd.{first_chunks}
use Rattle.std.proofs.lemmas.List.{get_or-drop, drop-drop}
use Rattle.numbers.specs.Lists.{list_below}
use Rattle.numbers.specs.Words.{AreBytes, bytes_of, part_of, word}
use Rattle.numbers.proofs.Counts.{get_or_beyond, get_or_list_below, length_list_below, list_below_append, list_below_ext}

-- the words of four and of eight bytes are those that the library reads, low byte first
pub from_le_bytes_4 : (bytes : List ℕ) → from_le_bytes w32 bytes ≡ word 4 bytes 0
from_le_bytes_4 bytes = omega arith

pub from_le_bytes_8 : (bytes : List ℕ) → from_le_bytes w64 bytes ≡ word 8 bytes 0
from_le_bytes_8 bytes = omega arith

-- and the bytes of eight are those that it gives
pub to_le_bytes_8 : (number : ℕ) → to_le_bytes w64 number ≡ bytes_of 8 number
unfolding bytes_of list_below
to_le_bytes_8 number = ap (λ (low : ℕ). low % 256 ∷ drop 1 (to_le_bytes w64 number)) (sym (div-one number))

pow_pos : (n : ℕ) → 0 < 256 ^ n
pow_pos n = one-le-pow n 256 (zero-lt-suc 255)

-- bytes that agree make one word
word_ext : (xs ys : List ℕ) (a b n : ℕ) → ((i : ℕ) → i < n → get_or xs (a + i) 0 ≡ get_or ys (b + i) 0) → word n xs a ≡ word n ys b
word_ext xs ys a b zero agree = refl
word_ext xs ys a b (suc n) agree =
    ap₂ (λ (low byte : ℕ). low + byte * 256 ^ n) (word_ext xs ys a b n (λ i l. agree i (omega arith))) (agree n (omega arith))

-- so do they where all bytes from two places on agree, so many of them
pub word_agree : (xs ys : List ℕ) (a b size : ℕ) → ((i : ℕ) → i < size → get_or xs (a + i) 0 ≡ get_or ys (b + i) 0)
    → (n at : ℕ) {x y : ℕ} → at + n ≤ size → a + at ≡ x → b + at ≡ y → word n xs x ≡ word n ys y
word_agree xs ys a b size agree n at within x y =
    ap (word n xs) (sym x)
    ∙ word_ext xs ys (a + at) (b + at) n
    (λ i l. ap (λ (p : ℕ). get_or xs p 0) (add_assoc a at i) ∙ agree (at + i) (omega arith) ∙ ap (λ (p : ℕ). get_or ys p 0) (sym (add_assoc b at i)))
    ∙ ap (word n ys) y

-- a word of the first bytes, and one of the bytes from a place on
pub word_take : (bytes : List ℕ) (m n at : ℕ) → at + n ≤ m → word n (take m bytes) at ≡ word n bytes at
word_take bytes m n at inside = word_ext (take m bytes) bytes at at n (λ i l. get_or-take m bytes (at + i) 0 (omega arith))

pub word_drop : (bytes : List ℕ) (from n at : ℕ) → word n (drop from bytes) at ≡ word n bytes (from + at)
word_drop bytes from n at =
    word_ext (drop from bytes) bytes at (from + at) n (λ i l. get_or-drop from bytes (at + i) 0 ∙ ap (λ (place : ℕ). get_or bytes place 0) (omega arith))

-- a word within one of the chunks that the library cuts is the word at its place among all bytes
chunk_at : (bytes : List ℕ) (size count i : ℕ) → i < count → get_or (first_chunks size count bytes) i [] ≡ take size (drop (i * size) bytes)
chunk_at bytes size zero i inside = absurd (not-suc-le-zero inside)
chunk_at bytes size (suc count) zero inside = rw (zero-mul size) refl
chunk_at bytes size (suc count) (suc i) inside =
    chunk_at (drop size bytes) size count i (le_of_suc-le-suc inside)
    ∙ ap (take size) (drop-drop (i * size) size bytes ∙ ap (λ (m : ℕ). drop m bytes) (omega arith))

pub chunk_word : (bytes : List ℕ) (size count i : ℕ) → i < count → (n at place : ℕ) → at + n ≤ size → i * size + at ≡ place
    → word n (get_or (first_chunks size count bytes) i []) at ≡ word n bytes place
chunk_word bytes size count i inside n at place within here =
    ap (λ (chunk : List ℕ). word n chunk at) (chunk_at bytes size count i inside)
    ∙ word_take (drop (i * size) bytes) size n at within
    ∙ word_drop bytes (i * size) n at
    ∙ ap (word n bytes) here

-- m bytes, and n bytes above them
word_join : (bytes : List ℕ) (at m n : ℕ) → word (m + n) bytes at ≡ word n bytes (at + m) * 256 ^ m + word m bytes at
word_join bytes at m zero = rw (add-zero m) (omega arith)
word_join bytes at m (suc n) =
    rw (add-suc m n, word_join bytes at m n, add_assoc at m n, pow-add 256 m n, add-mul (word n bytes (at + m)) (get_or bytes (at + (m + n)) 0 * 256 ^ n) (256 ^ m), mul_assoc (get_or bytes (at + (m + n)) 0) (256 ^ n) (256 ^ m), mul_comm (256 ^ n) (256 ^ m)) (omega arith)

module _ (bytes : List ℕ) (are : AreBytes bytes) where
  -- a word of n bytes is below 256 ^ n
  pub word_most : (n at : ℕ) → word n bytes at < 256 ^ n
  word_most zero at = rw (pow-zero 256) (omega arith)
  word_most (suc n) at =
      rw (pow-suc 256 n, mul_comm (256 ^ n) 256) (omega (arith, digits_lt (are (at + n)) (word_most n at)))

  -- the part of a word that some of its bytes make is the word of these bytes
  pub word_part : (at from n above place : ℕ) → at + from ≡ place → part_of n (word (from + (n + above)) bytes at) from ≡ word n bytes place
  word_part at from n above place e =
      ap (λ (w : ℕ). w / 256 ^ from % 256 ^ n) (word_join bytes at from (n + above))
      ∙ ap (λ (w : ℕ). w % 256 ^ n) (digits_div (word (n + above) bytes (at + from)) (word_most from at))
      ∙ ap (λ (w : ℕ). w % 256 ^ n) (word_join bytes (at + from) n above)
      ∙ digits_mod (word above bytes (at + from + n)) (word_most n (at + from))
      ∙ ap (word n bytes) e

-- the word of some bytes of a number is that part of it
bytes_part : (count number from n : ℕ) → from + n ≤ count → word n (bytes_of count number) from ≡ part_of n number from
unfolding bytes_of
bytes_part count number from zero inside = sym (ap (λ (p : ℕ). number / 256 ^ from % p) (pow-zero 256) ∙ mod-one (number / 256 ^ from))
bytes_part count number from (suc n) inside =
    ap₂ (λ (low byte : ℕ). low + byte * 256 ^ n) (bytes_part count number from n (omega arith)) here
    ∙ add_comm (number / 256 ^ from % 256 ^ n) (number / 256 ^ from / 256 ^ n % 256 * 256 ^ n)
    ∙ sym (mod-mul (number / 256 ^ from) (zero-lt-suc 255) (pow_pos n))
    ∙ ap (λ (p : ℕ). number / 256 ^ from % p) (mul_comm 256 (256 ^ n) ∙ sym (pow-suc 256 n))
  where
    here : get_or (bytes_of count number) (from + n) 0 ≡ number / 256 ^ from / 256 ^ n % 256
    here =
        get_or_list_below (part_of 1 number) count 0 (from + n) (omega arith)
        ∙ ap (λ (p : ℕ). number / p % 256) (pow-add 256 from n)
        ∙ ap (λ (q : ℕ). q % 256) (sym (div-div-eq-div-mul number (256 ^ from) (256 ^ n)))

-- the bytes of a number are as many as asked
pub bytes_length : (count number : ℕ) → length (bytes_of count number) ≡ count
unfolding bytes_of
bytes_length count number = length_list_below (part_of 1 number) count

-- and bytes
pub are_bytes : (count number : ℕ) → AreBytes (bytes_of count number)
unfolding bytes_of
are_bytes count number place = by_test (leb count place) refl
  where
    by_test : (test : Bool) → leb count place ≡ test → get_or (list_below (part_of 1 number) count) place 0 < 256
    by_test true e = rw (get_or_beyond (part_of 1 number) count 0 place (leb-true count place e)) (omega arith)
    by_test false e =
        rw (get_or_list_below (part_of 1 number) count 0 place (leb-false count place e)) (mod-lt (number / 256 ^ place) (zero-lt-suc 255))

-- and make it again, if it is below 256 ^ count
pub bytes_whole : (count number : ℕ) → number < 256 ^ count → word count (bytes_of count number) 0 ≡ number
bytes_whole count number small =
    bytes_part count number 0 count (omega arith)
    ∙ ap (λ (q : ℕ). q % 256 ^ count) (div-one number)
    ∙ mod-eq_of_lt small

-- the bytes of a word are those that it was made of
pub word_bytes : (bytes : List ℕ) → AreBytes bytes → (at count : ℕ) → bytes_of count (word count bytes at) ≡ list_below (λ i. get_or bytes (at + i) 0) count
unfolding bytes_of
word_bytes bytes are at count =
    list_below_ext (part_of 1 (word count bytes at)) (λ i. get_or bytes (at + i) 0) count (λ i inside. byte i (count - (i + 1)) (omega arith))
  where
    byte : (i above : ℕ) → i + (1 + above) ≡ count → part_of 1 (word count bytes at) i ≡ get_or bytes (at + i) 0
    byte i above e =
        ap (λ (n : ℕ). part_of 1 (word n bytes at) i) (sym e)
        ∙ word_part bytes are at i 1 above (at + i) refl
        ∙ ap (λ (place : ℕ). 0 + get_or bytes place 0 * 1) (add-zero (at + i))
        ∙ omega arith

-- the bytes of a number that is made of two are those of the low one, then those of the high one
pub bytes_join : (m n low high : ℕ) → low < 256 ^ m → bytes_of (m + n) (low + high * 256 ^ m) ≡ bytes_of m low ++ bytes_of n high
unfolding bytes_of
bytes_join m n low high small =
    list_below_append (part_of 1 (low + high * 256 ^ m)) m n
    ∙ ap₂ (λ (xs ys : List ℕ). xs ++ ys)
    (list_below_ext _ (part_of 1 low) m (λ i inside. low_byte i (m - (i + 1)) (omega arith)))
    (list_below_ext _ (part_of 1 high) n (λ i _. high_byte i))
  where
    above_it : (i above : ℕ) → i + suc above ≡ m → high * 256 ^ m ≡ high * 256 ^ above * 256 * 256 ^ i
    above_it i above e =
        ap (λ (p : ℕ). high * 256 ^ p) (sym e)
        ∙ ap (λ (p : ℕ). high * p) (pow-add 256 i (suc above) ∙ mul_comm (256 ^ i) (256 ^ suc above))
        ∙ sym (mul_assoc high (256 ^ suc above) (256 ^ i))
        ∙ ap (λ (p : ℕ). p * 256 ^ i) (ap (λ (p : ℕ). high * p) (pow-suc 256 above) ∙ sym (mul_assoc high (256 ^ above) 256))

    low_byte : (i above : ℕ) → i + suc above ≡ m → part_of 1 (low + high * 256 ^ m) i ≡ part_of 1 low i
    low_byte i above e =
        ap (λ (more : ℕ). (low + more) / 256 ^ i % 256) (above_it i above e)
        ∙ ap (λ (q : ℕ). q % 256) (add-mul-div_right low (high * 256 ^ above * 256) (pow_pos i))
        ∙ omega arith

    high_byte : (i : ℕ) → part_of 1 (low + high * 256 ^ m) (m + i) ≡ part_of 1 high i
    high_byte i =
        ap (λ (p : ℕ). (low + high * 256 ^ m) / p % 256) (pow-add 256 m i)
        ∙ ap (λ (q : ℕ). q % 256) (sym (div-div-eq-div-mul (low + high * 256 ^ m) (256 ^ m) (256 ^ i)))
        ∙ ap (λ (q : ℕ). q / 256 ^ i % 256) (ap (λ (x : ℕ). x / 256 ^ m) (add_comm low (high * 256 ^ m)) ∙ digits_div high small)

-- bytes behind bytes
module _ (xs ys : List ℕ) where
  pub append_bytes : AreBytes xs → AreBytes ys → AreBytes (xs ++ ys)
  append_bytes are_x are_y place = by_test (leb (length xs) place) refl
    where
      by_test : (test : Bool) → leb (length xs) place ≡ test → get_or (xs ++ ys) place 0 < 256
      by_test true e =
          subst (λ (p : ℕ). get_or (xs ++ ys) p 0 < 256) (add-sub_of_le (leb-true (length xs) place e))
          (rw (get_or-append-add xs ys (place - length xs) 0) (are_y (place - length xs)))
      by_test false e = rw (get_or-append xs ys 0 place (leb-false (length xs) place e)) (are_x place)

  -- a word within the first, and one within those behind
  pub word_before : (n : ℕ) → n ≤ length xs → word n (xs ++ ys) 0 ≡ word n xs 0
  word_before n inside = word_ext (xs ++ ys) xs 0 0 n (λ i l. get_or-append xs ys 0 (0 + i) (omega arith))

  pub word_behind : (n at : ℕ) → length xs ≡ at → word n (xs ++ ys) at ≡ word n ys 0
  word_behind n at e =
      ap (word n (xs ++ ys)) (sym e)
      ∙ word_ext (xs ++ ys) ys (length xs) 0 n (λ i l. get_or-append-add xs ys i 0 ∙ ap (λ (p : ℕ). get_or ys p 0) (sym (zero-add i)))
