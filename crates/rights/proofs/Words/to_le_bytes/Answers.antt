use Rattle.std.proofs.Common.{ℕ, List, [], ◌∷◌, ◌++◌, ap₂, ◌∙◌, refl}
use borrow.Rule.Slice.PartMut.{put_mid}
use Rattle.numbers.specs.Lists.{list_below}
use Rattle.numbers.specs.Words.{bytes_of}
use Rattle.numbers.proofs.WordLaws.{to_le_bytes_8}
use Rattle.rights.proofs.Words.to_le_bytes.Goals as goal

-- the bytes of the one word stand before those of the other
pub returns : goal.returns
unfolding bytes_of list_below
returns c =
    ap₂ (λ (low high : List ℕ). put_mid 8 8 (low ++ (0 ∷ 0 ∷ 0 ∷ 0 ∷ 0 ∷ 0 ∷ 0 ∷ 0 ∷ [])) high)
    (c.copy_from_slice.ensures.after ∙ c.to_le_bytes.ensures ∙ to_le_bytes_8 c.args.self.low)
    (c.copy_from_slice-2.ensures.after ∙ c.to_le_bytes-2.ensures ∙ to_le_bytes_8 c.args.self.high)
    ∙ refl
