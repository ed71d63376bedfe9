-- One hour's input: where the amount and the prices stand in its bytes, and the call that decodes them.
-- Assumes nothing.
use Rattle.std.specs.Prelude.{ℕ, ◌+◌, ◌-◌, ◌*◌, ◌^◌, cond, not, ◌||◌, List, [], ◌∷◌, ltb, eqb, length, ℤ, pos, negsuc, Result}
use Rattle.numbers.specs.Limits.{nodes}
use Rattle.numbers.specs.Lists.{list_below}
use Rattle.numbers.specs.Refusals.{first_refusal, ◌if◌, answer_by, answered}
use Rattle.numbers.specs.Words.{word}
use Rattle.numbers.specs.declared.refusal.Refusal.{Refusal}

-- "collected (64 bits signed), then 1,024 prices (32 bits signed)": so many bytes each, in all "4,104 bytes"
abbrev pub amount_bytes : ℕ
amount_bytes = 8

abbrev pub price_bytes : ℕ
price_bytes = 4

abbrev pub hour_bytes : ℕ
hour_bytes = amount_bytes + nodes * price_bytes

-- "signed": the number that so many bits stand for, in two's complement; negsuc n is -(n + 1)
abbrev pub signed : ℕ → ℕ → ℤ
signed bits n = cond (ltb n (2 ^ (bits - 1))) (pos n) (negsuc (2 ^ bits - 1 - n))

-- "collected (64 bits signed)", "low byte first"
unfoldable pub amount_in : List ℕ → ℤ
amount_in block = signed 64 (word amount_bytes block 0)

-- "then 1,024 prices (32 bits signed)", "low byte first"
unfoldable pub price_in : List ℕ → ℕ → ℤ
price_in block node = signed 32 (word price_bytes block (amount_bytes + node * price_bytes))

unfoldable pub prices_in : List ℕ → List ℤ
prices_in block = list_below (price_in block) nodes

-- 4: a block that is not "4,104 bytes", or lent prices that are not 1,024
unfoldable pub decode_refusal : ℕ → ℕ → ℕ
decode_refusal bytes places = first_refusal ((4 if not (eqb bytes hour_bytes) || not (eqb places nodes)) ∷ [])

-- the answer of a decode call: the amount collected
unfoldable pub decoded : List ℕ → ℕ → Result ℤ Refusal
decoded block places = answered (decode_refusal (length block) places) 0 (amount_in block)

-- the lent prices after a decode call; a refused one leaves them as they were
unfoldable pub prices_after : List ℕ → List ℤ → List ℤ
prices_after block before = answer_by (decode_refusal (length block) (length before)) (prices_in block) before
