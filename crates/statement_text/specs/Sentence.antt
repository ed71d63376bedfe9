-- The sentence on a refusal, as bytes: "one plain sentence for a refusal: the event and its number, the refusal's word from the
-- table, and for 7 and 8 the record".
-- Assumes nothing.
use Rattle.std.specs.Prelude.{ℕ, Bool, cond, ◌||◌, List, [], ◌∷◌, ◌++◌, eqb, get_or, codes}
use Prim.Native.Char.{code}
use Prim.Native.String.{String}
use Rattle.statement_text.specs.Text.{newline, field}

-- what stands for the word of a number that no refusal has
abbrev pub no_word : String
no_word = "not in the table"

-- the refusals' words, each at its number: 0 to 17
abbrev pub words : List String
words =
    no_word
    ∷ "spoiled book"
    ∷ "year over"
    ∷ "out of turn"
    ∷ "wrong length"
    ∷ "wild price"
    ∷ "wild amount"
    ∷ "bad right"
    ∷ "unpriced node"
    ∷ "hour too large"
    ∷ "carry full"
    ∷ "want too large"
    ∷ no_word
    ∷ no_word
    ∷ no_word
    ∷ "no such year"
    ∷ "too many wants"
    ∷ "total too large"
    ∷ []

-- "the refusal's word from the table"
unfoldable pub word_of : ℕ → List ℕ
word_of refusal = codes (get_or words refusal no_word)

-- "the event and its number", by the event's letter; the rights file has no number
unfoldable pub event_phrase : ℕ → ℕ → List ℕ
event_phrase tag number =
    cond (eqb tag (code "H")) (codes "Hour" ++ field number)
    (cond (eqb tag (code "M")) (codes "Month end" ++ field number)
    (cond (eqb tag (code "Y")) (codes "Year end" ++ field number) (codes "Rights file")))

-- the refusal's number and its word
unfoldable pub refusal_phrase : ℕ → List ℕ
refusal_phrase refusal = codes " is refused:" ++ field refusal ++ codes ", " ++ word_of refusal

-- "for 7 and 8 the record"
abbrev pub is_of_record : ℕ → Bool
is_of_record refusal = eqb refusal 7 || eqb refusal 8

unfoldable pub record_phrase : ℕ → ℕ → List ℕ
record_phrase refusal faulty = cond (is_of_record refusal) (codes ", record" ++ field faulty) []

-- the sentence, with a full stop and a newline; nothing for refusal 0
unfoldable pub sentence : ℕ → ℕ → ℕ → ℕ → List ℕ
sentence tag number refusal faulty =
    cond (eqb refusal 0) []
    (event_phrase tag number ++ refusal_phrase refusal ++ record_phrase refusal faulty ++ codes "." ++ (newline ∷ []))

-- the room that a sentence asks for: no sentence is longer
abbrev pub sentence_room : ℕ
sentence_room = 112
