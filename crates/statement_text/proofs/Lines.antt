-- The texts of lines put together from their pieces, and how long they can be.
-- Assumes nothing.
use Prim.Native.Nat.{ℕ, zero, suc, ◌+◌, ◌*◌, ◌^◌, ◌≤◌, ◌<◌}
use mathlib.Core.Bool.{true, false}
use mathlib.Core.Path.{◌≡◌, refl, sym, ap, ◌∙◌}
use mathlib.Core.List.{List, [], ◌∷◌, ◌++◌, append_assoc, append-nil}
use native.Mathlib.Nat.{le_refl}
use native.Mathlib.Numerals.{add-one}
use native.Mathlib.Omega.{arith}
use Rattle.std.proofs.lemmas.Int.{ints}
use lib.ListN.{length, get_or, take, length-append}
use lib.IntN.{ℤ, pos, negsuc, nat_abs}
use lib.Signed.{lt_z}
use Rattle.std.specs.List.{flat_map}
use Rattle.std.proofs.lemmas.List.{flat_map_more, take_more}
use Rattle.numbers.specs.Limits.{owners}
use Rattle.statement_text.specs.InnerContracts.{Put, numbers_text}
use Rattle.statement_text.specs.declared.lent.Text.{Text}
use Rattle.statement_text.specs.Text.{blank, minus, digits, signed_digits, signed_field, Line, owner_line, fund_line, refusal_line, line_text, text_of, owner_lines, lines_below, event_lines, line_room, event_room}
use Rattle.statement_text.proofs.Decimal.{digits_room, digits_half_room}
use Rattle.statement_text.proofs.Pieces.{put_then, put_as}

-- ---- a number behind a blank, by its sign

pub put_below_zero : (z : ℤ) {t u v : Text} → lt_z z (pos 0) ≡ true → Put (blank ∷ minus ∷ []) t u → Put (digits (nat_abs z)) u v
    → Put (signed_field z) t v
unfolding signed_digits
put_below_zero (pos n) low first second = absurd (omega (arith, ints, sym low))
put_below_zero (negsuc n) low first second = put_then first second

pub put_from_zero : (z : ℤ) {t u v : Text} → lt_z z (pos 0) ≡ false → Put (blank ∷ []) t u → Put (digits (nat_abs z)) u v
    → Put (signed_field z) t v
unfolding signed_digits
put_from_zero (pos n) high first second = put_then first second
put_from_zero (negsuc n) high first second = absurd (omega (arith, ints, sym high))

-- ---- the lines of a letter and numbers

-- one field more is put behind those before it
pub put_number : (numbers : List ℤ) (i : ℕ) {t u v : Text} {y : ℤ} → Put (flat_map signed_field (take i numbers)) t u
    → Put (signed_field y) u v → i < length numbers → y ≡ get_or numbers i (pos 0)
    → Put (flat_map signed_field (take (i + 1) numbers)) t v
put_number numbers i first second within is =
    put_as
    (flat_map_more signed_field [] (take i numbers) (get_or numbers i (pos 0)) ∙ ap (flat_map signed_field) (sym (take_more numbers i (pos 0) within)))
    (put_then first (put_as (ap signed_field is) second))

pub fund_numbers : (month year : ℤ) → numbers_text 70 (month ∷ year ∷ []) ≡ line_text (fund_line month year)
unfolding line_text
fund_numbers month year = simp append-nil

pub refusal_numbers : (number : ℕ) → numbers_text 82 (pos number ∷ []) ≡ line_text (refusal_line number)
unfolding line_text signed_digits
refusal_numbers number = simp append_assoc

-- ---- texts of lines in a row

pub text_none : text_of [] ≡ []
unfolding text_of
text_none = refl

pub text_append : (lines more : List Line) → text_of (lines ++ more) ≡ text_of lines ++ text_of more
unfolding text_of
text_append [] more = refl
text_append (line ∷ rest) more =
    ap (λ (l : List ℕ). line_text line ++ l) (text_append rest more) ∙ sym (append_assoc (line_text line) (text_of rest) (text_of more))

pub text_one : (line : Line) → text_of (line ∷ []) ≡ line_text line
unfolding text_of
text_one line = append-nil (line_text line)

-- ---- an owner's lines, and those of the owners below a number

pub owner_zero : (tag number owner : ℕ) (cents : ℤ) → cents ≡ pos 0 → text_of (owner_lines tag number owner cents) ≡ []
unfolding owner_lines
owner_zero tag number owner cents e = ap (λ (z : ℤ). text_of (owner_lines tag number owner z)) e ∙ text_none

pub owner_line_lem : (tag number owner : ℕ) (cents : ℤ) → (cents ≡ pos 0 → ⊥)
    → text_of (owner_lines tag number owner cents) ≡ line_text (owner_line tag number owner cents)
unfolding owner_lines
owner_line_lem tag number owner (pos zero) other = absurd (other refl)
owner_line_lem tag number owner (pos (suc n)) other = text_one (owner_line tag number owner (pos (suc n)))
owner_line_lem tag number owner (negsuc n) other = text_one (owner_line tag number owner (negsuc n))

-- the text of the owners below a number
abbrev pub owners_text : ℕ → ℕ → List ℤ → ℕ → List ℕ
owners_text tag number lines n = text_of (lines_below tag number lines n)

module _ (tag number : ℕ) (lines : List ℤ) where
  pub owners_none : owners_text tag number lines 0 ≡ []
  unfolding lines_below
  owners_none = text_none

  pub owners_next : (n : ℕ)
      → owners_text tag number lines (n + 1)
      ≡ owners_text tag number lines n ++ text_of (owner_lines tag number n (get_or lines n (pos 0)))
  unfolding lines_below
  owners_next n =
      rw (add-one n) (text_append (lines_below tag number lines n) (owner_lines tag number n (get_or lines n (pos 0))))

-- one owner more is put behind those before it
pub put_owner : (tag number : ℕ) (lines : List ℤ) (owner : ℕ) {t u v : Text} → Put (owners_text tag number lines owner) t u
    → Put (text_of (owner_lines tag number owner (get_or lines owner (pos 0)))) u v
    → Put (owners_text tag number lines (owner + 1)) t v
put_owner tag number lines owner first second = put_as (sym (owners_next tag number lines owner)) (put_then first second)

-- ---- how long a text can be

pub signed_length : (z : ℤ) → nat_abs z ≤ 2 ^ 63 → length (signed_digits z) ≤ 20
unfolding signed_digits
signed_length (pos n) few = omega (arith, digits_half_room n few)
signed_length (negsuc n) few = omega (arith, digits_half_room (suc n) few)

pub line_length : (tag number owner : ℕ) (cents : ℤ) → number < 2 ^ 64 → owner < 2 ^ 64 → nat_abs cents ≤ 2 ^ 63
    → length (line_text (owner_line tag number owner cents)) ≤ line_room
unfolding line_text
line_length tag number owner cents small low few =
    simp length-append
    (omega (arith, digits_room number small, digits_room owner low, signed_length cents few))

pub owner_length : (tag number owner : ℕ) (cents : ℤ) → number < 2 ^ 64 → owner < 2 ^ 64 → nat_abs cents ≤ 2 ^ 63
    → length (text_of (owner_lines tag number owner cents)) ≤ line_room
unfolding owner_lines
owner_length tag number owner (pos zero) small low few = omega (arith, ap length text_none)
owner_length tag number owner (pos (suc n)) small low few =
    omega
    (arith, ap length (text_one (owner_line tag number owner (pos (suc n)))), line_length tag number owner (pos (suc n)) small low few)
owner_length tag number owner (negsuc n) small low few =
    omega
    (arith, ap length (text_one (owner_line tag number owner (negsuc n))), line_length tag number owner (negsuc n) small low few)

-- the room that the owners below a number take grows by no more than a line with each
pub owners_more : (tag number : ℕ) (lines : List ℤ) (owner : ℕ) → length (owners_text tag number lines owner) ≤ owner * line_room
    → length (text_of (owner_lines tag number owner (get_or lines owner (pos 0)))) ≤ line_room
    → length (owners_text tag number lines (owner + 1)) ≤ (owner + 1) * line_room
owners_more tag number lines owner before one =
    rw (owners_next tag number lines owner, length-append) (omega arith)

-- "the room that an event asks for" suffices for its text, whatever the lines are
pub event_length : (tag number : ℕ) (lines : List ℤ) → number < 2 ^ 64 → length lines < 2 ^ 64
    → ((i : ℕ) → i < length lines → nat_abs (get_or lines i (pos 0)) ≤ 2 ^ 63)
    → length (text_of (event_lines tag number lines)) ≤ event_room (length lines)
unfolding event_lines
event_length tag number lines small short few = up_to (length lines) (le_refl (length lines))
  where
    up_to : (n : ℕ) → n ≤ length lines → length (owners_text tag number lines n) ≤ n * line_room
    up_to zero within = omega (arith, ap length (owners_none tag number lines))
    up_to (suc n) within =
        let more =
        owners_more tag number lines n (up_to n (omega arith))
        (owner_length tag number n (get_or lines n (pos 0)) small (omega arith) (few n (omega arith))) in
        rw (← add-one n) more

-- for a line of each owner it is the code's EVENT_ROOM
pub room_of_owners : event_room owners ≡ 4160
room_of_owners = refl
