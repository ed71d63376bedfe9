-- The sentence on a refusal, put together from its parts.
-- Assumes nothing.
use Prim.Native.Nat.{ℕ, ◌≤◌, ◌<◌}
use mathlib.Core.Path.{◌≡◌, sym, ap, ◌∙◌}
use mathlib.Core.List.{List, [], ◌∷◌, ◌++◌, append_assoc, map}
use lib.Chars.{codes}
use lib.ListN.{get_or, get_or-eq_default, get_or-map as get_or-mapped}
use denote.Bor.{Bor}
use borrow.Author.Tests.{ne_eqb}
use Rattle.std.proofs.lemmas.List.{get_or-map}
use Rattle.statement_text.specs.Text.{newline}
use Rattle.statement_text.specs.InnerContracts.{Put}
use Rattle.statement_text.specs.declared.lent.Text.{Text}
use Rattle.statement_text.specs.Sentence.{words, no_word, word_of, event_phrase, refusal_phrase, record_phrase, sentence}
use Rattle.statement_text.proofs.Pieces.{put_then, put_as}

-- ---- the refusal's word

-- a table with the words' bytes has each word at its number
pub word_at : (table : List (Bor (List ℕ))) (n : ℕ) (other : Bor (List ℕ)) → map (λ (w : Bor (List ℕ)). w.now) table ≡ map codes words
    → n < 18 → (get_or table n other).now ≡ word_of n
unfolding word_of
word_at table n other same within =
    sym (get_or-mapped (λ (w : Bor (List ℕ)). w.now) table n other)
    ∙ ap (λ (l : List (List ℕ)). get_or l n other.now) same
    ∙ get_or-map codes words n no_word other.now within

pub past_words : (n : ℕ) → 18 ≤ n → codes no_word ≡ word_of n
unfolding word_of
past_words n past = ap codes (sym (get_or-eq_default words no_word past))

-- ---- the event

pub other_event : (tag number : ℕ) → (tag ≡ 72 → ⊥) → (tag ≡ 77 → ⊥) → (tag ≡ 89 → ⊥) → codes "Rights file" ≡ event_phrase tag number
unfolding event_phrase
other_event tag number hour month year = simp (ne_eqb tag 72 hour, ne_eqb tag 77 month, ne_eqb tag 89 year)

-- ---- the sentence

module _ (tag number refusal faulty : ℕ) where
  pub put_sentence : {t0 t1 t2 t3 t4 : Text} → (refusal ≡ 0 → ⊥) → Put (event_phrase tag number) t0 t1
      → Put (refusal_phrase refusal) t1 t2 → Put (record_phrase refusal faulty) t2 t3 → Put (46 ∷ newline ∷ []) t3 t4
      → Put (sentence tag number refusal faulty) t0 t4
  unfolding sentence
  put_sentence refused p1 p2 p3 p4 =
      rw (ne_eqb refusal 0 refused)
      (put_as (sym (append_assoc (event_phrase tag number ++ refusal_phrase refusal ++ record_phrase refusal faulty) (codes ".") (newline ∷ [])))
      (put_then (put_then (put_then p1 p2) p3) p4))
