-- The bytes of the part are those of the file from the place on.
use Rattle.std.proofs.Common.{◌≡◌, ◌-◌, ◌+◌, ◌<◌, ℕ, List, take, drop, length, get_or, Option, Bor, subst, ap, ◌∙◌, arith}
use Rattle.std.specs.Array.{IsFirstChunk}
use Rattle.std.specs.Option.{MatchOption}
use Rattle.std.proofs.lemmas.List.{get_or-take, get_or-drop}
use Rattle.rights.specs.Layout.{right_from}
use Rattle.rights.proofs.RecordWords.{right_agree}
use Rattle.target.proofs.live_rights.record_at.Goals as goal

-- the part of a file that is cut out for a record
abbrev part : List ℕ → ℕ → List ℕ
part file place = take (place + 16 - place) (drop place file)

from_part : (file bytes : List ℕ) (place : ℕ) → IsFirstChunk (part file place) bytes 16 → right_from bytes 0 ≡ right_from file place
from_part file bytes place first =
    right_agree bytes file 0 place
    (λ i inside.
    ap (λ (l : List ℕ). get_or l (0 + i) 0) first.same
    ∙ get_or-take 16 (part file place) (0 + i) 0 (omega (arith, inside))
    ∙ get_or-take (place + 16 - place) (drop place file) (0 + i) 0 (omega (arith, inside))
    ∙ get_or-drop place file (0 + i) 0
    ∙ ap (λ (k : ℕ). get_or file k 0) (omega arith))

pub returns : goal.returns
returns c =
    let file = c.args.rights.now in
    from_part file c.unwrap.result.now c.args.place
    (subst
    (λ (o : Option (Bor (List ℕ))). MatchOption o (length (part file c.args.place) < 16) (λ y. IsFirstChunk (part file c.args.place) y.now 16))
    c.unwrap.ensures c.first_chunk.ensures.cases)
