-- The words that the library reads are those of a block: their sign, and the bytes that they are made of.
-- Assumes nothing.
use Prim.Native.Nat.{ℕ, ◌+◌, ◌-◌, ◌*◌, ◌^◌, ◌≤◌, ◌<◌}
use mathlib.Core.Path.{◌≡◌, refl, ap, ◌∙◌}
use mathlib.Core.Bool.{cond}
use mathlib.Core.List.{List, []}
use native.Mathlib.Omega.{arith}
use native.Mathlib.Nat.{le_refl}
use lib.Dec.{ltb}
use lib.IntN.{pos, negsuc}
use lib.ListN.{get_or, take, drop}
use mir.Syntax.{Width, w8, w16, w32, w64, w128}
use mir.Val.{to_z, bits, hbits}
use Rattle.std.specs.Int.{from_le_bytes}
use Rattle.std.specs.Simd.{first_chunks}
use Rattle.numbers.specs.Words.{word}
use Rattle.numbers.proofs.WordLaws.{chunk_word, from_le_bytes_4, from_le_bytes_8, word_drop, word_take}
use Rattle.hour_block.specs.Block.{signed, amount_in}

-- the library's two's complement, at any width
pub signed_word : (w : Width) (n : ℕ) → to_z w n ≡ signed (bits w) n
signed_word w n = rw (half w) (ap (λ (m : ℕ). cond (ltb n (2 ^ (bits w - 1))) (pos n) (negsuc m)) (omega arith))
  where
    half : (w : Width) → hbits w ≡ bits w - 1
    half w8 = refl
    half w16 = refl
    half w32 = refl
    half w64 = refl
    half w128 = refl

-- the number that the library reads from a chunk of four, of so many bytes from a place on
pub chunk_read : (block : List ℕ) (chunks : List (List ℕ)) (from m k i at : ℕ) → chunks ≡ first_chunks 4 k (take m (drop from block))
    → i < k → i * 4 + 4 ≤ m → from + i * 4 ≡ at → to_z w32 (from_le_bytes w32 (get_or chunks i [])) ≡ signed 32 (word 4 block at)
chunk_read block chunks from m k i at are inside within here =
    signed_word w32 (from_le_bytes w32 (get_or chunks i []))
    ∙ ap (signed 32)
    (from_le_bytes_4 (get_or chunks i [])
    ∙ ap (λ (cs : List (List ℕ)). word 4 (get_or cs i []) 0) are
    ∙ chunk_word (take m (drop from block)) 4 k i inside 4 0 (i * 4) (le_refl 4) (omega arith)
    ∙ word_take (drop from block) m 4 (i * 4) within
    ∙ word_drop block from 4 (i * 4)
    ∙ ap (word 4 block) here)

-- the amount, read from the first eight bytes
pub amount_read : (block bytes : List ℕ) → bytes ≡ take 8 block → to_z w64 (from_le_bytes w64 bytes) ≡ amount_in block
unfolding amount_in
amount_read block bytes are =
    signed_word w64 (from_le_bytes w64 bytes)
    ∙ ap (signed 64)
    (from_le_bytes_8 bytes ∙ ap (λ (first : List ℕ). word 8 first 0) are ∙ word_take block 8 8 0 (le_refl 8))
