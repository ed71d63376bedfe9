-- A record of the rights file written out byte by byte, and prices, for the cases that need them.
-- Assumes nothing.
use Rattle.std.specs.Prelude.{ℕ, List, [], ◌∷◌, ℤ}

-- a right from node 0: owner 0; kind 0 (an obligation) and class 2 (all hours); first day 1, and the last day's low byte, above 256
unfoldable pub right_until : ℕ → ℕ → ℕ → List ℕ
right_until sink size last =
    0 ∷ 0 ∷ 0 ∷ 0 ∷ sink ∷ 0
    ∷ 0 ∷ 2
    ∷ size ∷ 0 ∷ 0 ∷ 0
    ∷ 1 ∷ 0 ∷ last ∷ 1
    ∷ []

-- to its last day, 365 = 109 + 256
abbrev pub right_to : ℕ → ℕ → List ℕ
right_to sink size = right_until sink size 109

-- cents at node 0 and at node 1
unfoldable pub prices_at : ℤ → ℤ → List ℤ
prices_at source sink = source ∷ sink ∷ []
