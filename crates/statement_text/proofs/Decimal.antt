-- The decimal digits of a number are those that the library prints, and so are their lengths; and how they come from pairs.
-- Assumes nothing.
use Prim.Native.Nat.{ℕ, suc, ◌+◌, ◌*◌, ◌^◌, ◌/◌, ◌%◌, ◌≤◌, ◌<◌}
use mathlib.Core.Path.{◌≡◌, refl, ap, ap₂, ◌∙◌}
use mathlib.Core.List.{List, [], ◌∷◌, ◌++◌, append_assoc}
use native.Mathlib.Omega.{arith}
use Rattle.std.proofs.Common.{rules}
use lib.ListN.{length, get_or}
use Rattle.std.specs.Fmt.{decimal}
use Rattle.std.proofs.lemmas.Fmt.{AppendsLastDigit, decimal_from_appends, decimal_digit, decimal_step, length-decimal-le, length-decimal-le_succ}
use Rattle.numbers.proofs.Tables.{table_rule}
use Rattle.statement_text.specs.declared.lent.TheConstants.{PAIRS}
use Rattle.statement_text.specs.InnerContracts.{pair}
use Rattle.statement_text.specs.Text.{digit, digits_within, digits}

-- a number below ten is its digit; any other, the digits of its tenth part and one digit more
by_last_digit : AppendsLastDigit digits_within
unfolding digits_within
by_last_digit = search rules

pub printed_digits : (n : ℕ) → n < 2 ^ 64 → digits n ≡ decimal n
unfolding digits
printed_digits n below =
    decimal_from_appends digits_within by_last_digit (suc n) n below (omega (arith, length-decimal-le_succ n below))

-- so a 64-bit number has at most 20 digits, and one up to 2 ^ 63 has 19
pub digits_room : (n : ℕ) → n < 2 ^ 64 → length (digits n) ≤ 20
digits_room n below = rw (printed_digits n below) (length-decimal-le 20 n (omega arith) (omega arith) below)

pub digits_half_room : (n : ℕ) → n ≤ 2 ^ 63 → length (digits n) ≤ 19
digits_half_room n below = rw (printed_digits n (omega arith)) (length-decimal-le 19 n (omega arith) (omega arith) (omega arith))

-- a number of one digit, one of two, and one whose last two digits are put behind the others
pub one_digit : (n : ℕ) → n < 10 → digits n ≡ digit n ∷ []
one_digit n low = printed_digits n (omega arith) ∙ decimal_digit n low

pub two_digits : (n : ℕ) → 10 ≤ n → n < 100 → digits n ≡ pair n
two_digits n high low =
    printed_digits n (omega arith) ∙ decimal_step n high (omega arith)
    ∙ ap (λ (l : List ℕ). l ++ (digit (n % 10) ∷ [])) (decimal_digit (n / 10) (omega arith))

pub last_pair : (n : ℕ) → 100 ≤ n → n < 2 ^ 64 → digits n ≡ digits (n / 100) ++ pair (n % 100)
last_pair n high below =
    let tens : n / 10 % 10 ≡ n % 100 / 10 = omega arith in
    let ones : n % 10 ≡ n % 100 % 10 = omega arith in
    let rest : n / 10 / 10 ≡ n / 100 = omega arith in
    rw (printed_digits n below, printed_digits (n / 100) (omega arith), decimal_step n (omega arith) below, decimal_step (n / 10) (omega arith) (omega arith), append_assoc, rest, tens, ← ones)

pub last_pairs : (n : ℕ) → 10000 ≤ n → n < 2 ^ 64
    → digits n ≡ digits (n / 10000) ++ pair (n % 10000 / 100) ++ pair (n % 10000 % 100)
last_pairs n high below =
    let rest : n / 100 / 100 ≡ n / 10000 = omega arith in
    let one : n / 100 % 100 ≡ n % 10000 / 100 = omega arith in
    let two : n % 100 ≡ n % 10000 % 100 = omega arith in
    rw (last_pair n (omega arith) below, last_pair (n / 100) (omega arith) (omega arith), rest, one, two) refl

-- the code's table of pairs, by one test that is computed over the whole table
pair_byte : (n i place : ℕ) → place < 200 → place / 2 ≡ n → place % 2 ≡ i → get_or PAIRS place 0 ≡ get_or (pair n) i 0
pair_byte n i place inside half rest =
    table_rule (λ (k : ℕ). get_or (pair (k / 2)) (k % 2) 0) PAIRS tt place inside ∙ ap₂ (λ (m j : ℕ). get_or (pair m) j 0) half rest

pub table_pair : (n : ℕ) → n < 100 → get_or PAIRS (n * 2) 0 ∷ get_or PAIRS (n * 2 + 1) 0 ∷ [] ≡ pair n
table_pair n low =
    ap₂ (λ (tens ones : ℕ). tens ∷ ones ∷ [])
    (pair_byte n 0 (n * 2) (omega arith) (omega arith) (omega arith))
    (pair_byte n 1 (n * 2 + 1) (omega arith) (omega arith) (omega arith))
