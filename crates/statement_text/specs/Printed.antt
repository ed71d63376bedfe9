-- The printed case, as the definitions give it: its five lines, and last lines with a balance below zero, computed by the prover.
-- Assumes nothing.
use Rattle.std.specs.Prelude.{ℕ, ◌-◌, ◌≡◌, refl, List, [], ◌∷◌, ◌++◌, replicate, ℤ, pos, negsuc, codes}
use Prim.Native.Char.{code}
use Rattle.numbers.specs.Limits.{owners}
use Rattle.statement_text.specs.Text.{digits_within, digits, signed_digits, fund_line, line_text, text_of, owner_lines, lines_below, event_lines}

-- the lines of an hour in which only the first two owners have one; negsuc n is -(n + 1)
abbrev lines : ℤ → ℤ → List ℤ
lines first second = first ∷ second ∷ replicate (owners - 2) (pos 0)

-- the five lines that the paper prints
unfoldable pub printed : List ℕ
printed = codes "H 0 0 8500\nH 0 1 -2500\nH 1 0 10000\nH 1 1 -2500\nF 1500 0\n"

pub printed_case : text_of
    (event_lines (code "H") 0 (lines (pos 8500) (negsuc 2499))
    ++ event_lines (code "H") 1 (lines (pos 10000) (negsuc 2499))
    ++ (fund_line (pos 1500) (pos 0) ∷ []))
    ≡ printed
unfolding printed event_lines lines_below owner_lines text_of line_text signed_digits digits digits_within
printed_case = refl

-- "Each surplus becomes a signed balance" (Wish 6): a last line prints the sign of both
pub below_zero : text_of (fund_line (negsuc 3999) (pos 0) ∷ fund_line (pos 0) (negsuc 0) ∷ []) ≡ codes "F -4000 0\nF 0 -1\n"
unfolding text_of line_text signed_digits digits digits_within
below_zero = refl
