-- A number's positive part, and its negative part with the sign dropped.
-- Assumes nothing.
use Rattle.std.specs.Prelude.{ℕ, suc, ℤ, pos, negsuc}

-- "or 0 if that is negative"
abbrev pub positive : ℤ → ℕ
positive (pos n) = n
positive (negsuc n) = 0

-- "sign dropped, if that is negative, else 0"; negsuc n is -(n + 1)
abbrev pub negative : ℤ → ℕ
negative (pos n) = 0
negative (negsuc n) = suc n
