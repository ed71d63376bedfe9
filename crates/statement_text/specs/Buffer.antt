-- Text in a lent buffer: what stands in it after a text is written at a place, and where that text ends.
-- Assumes nothing.
use Rattle.std.specs.Prelude.{ℕ, ◌+◌, cond, List, leb, length}
use Rattle.numbers.specs.Lists.{written}

-- a call that asks for so much room behind its place: with that room it writes the text and gives its end; without it the buffer stays
-- as it was, and the end is the place
unfoldable pub text_after : ℕ → List ℕ → List ℕ → ℕ → List ℕ
text_after room text before at = cond (leb (at + room) (length before)) (written before at text) before

unfoldable pub end_after : ℕ → List ℕ → List ℕ → ℕ → ℕ
end_after room text before at = cond (leb (at + room) (length before)) (at + length text) at
