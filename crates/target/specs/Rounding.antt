-- Tenths of a cent to whole cents.
-- Assumes nothing.
use Rattle.std.specs.Prelude.{suc, ◌+◌, ◌/◌, ℤ, pos, negsuc, neg_ℤ}

-- "rounded to a cent, halves away from zero" (Wish 2); negsuc n is -(n + 1)
unfoldable pub round_tenths : ℤ → ℤ
round_tenths (pos n) = pos ((n + 5) / 10)
round_tenths (negsuc n) = neg_ℤ (pos ((suc n + 5) / 10))
