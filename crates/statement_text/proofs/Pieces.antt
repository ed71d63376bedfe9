-- Texts written one after another into a buffer.
-- Assumes nothing.
use Prim.Native.Nat.{ℕ, ◌+◌, ◌≤◌}
use mathlib.Core.Path.{◌≡◌, refl, sym, ap, ap₂, subst, ◌∙◌}
use mathlib.Core.List.{List, [], ◌++◌}
use native.Mathlib.Nat.{add-zero, add_assoc}
use native.Mathlib.Omega.{arith}
use lib.ListN.{length, take, drop, length-append, take-append-drop}
use Rattle.numbers.specs.Lists.{written}
use Rattle.numbers.proofs.Written.{written_then}
use Rattle.statement_text.specs.InnerContracts.{Wrote, Put}
use Rattle.statement_text.specs.declared.lent.Text.{Text}

-- nothing written
pub wrote_nothing : (before : List ℕ) (at : ℕ) → Wrote [] before at before at
unfolding written
wrote_nothing before at =
    record {
      ends = sym (add-zero at);
      buffer = sym (ap (λ (n : ℕ). take at before ++ drop n before) (add-zero at) ∙ take-append-drop at before);
    }

-- one text written behind another
pub wrote_then : {one two before mid after : List ℕ} {at end last : ℕ} → Wrote one before at mid end → Wrote two mid end after last
    → at + length one ≤ length before → Wrote (one ++ two) before at after last
wrote_then {one} {two} {before} {mid} {after} {at} {end} {last} first second room =
    record {
      ends =
          second.ends ∙ ap (λ (n : ℕ). n + length two) first.ends ∙ add_assoc at (length one) (length two)
          ∙ ap (λ (n : ℕ). at + n) (sym (length-append one two));
      buffer =
          second.buffer ∙ ap₂ (λ (l : List ℕ) (n : ℕ). written l n two) first.buffer first.ends
          ∙ written_then before at one two room;
    }

-- the same text, said in another way
pub wrote_as : {one two before after : List ℕ} {at end : ℕ} → one ≡ two → Wrote one before at after end
    → Wrote two before at after end
wrote_as {one} {two} {before} {after} {at} {end} e w = subst (λ (l : List ℕ). Wrote l before at after end) e w

-- ---- pieces put behind a text

module _ {t : Text} where
  pub put_nothing : t.end ≤ length t.bytes.now → Put [] t t
  put_nothing inside = record { wrote = wrote_nothing _ _; same_buffer = refl; same_length = refl; inside = inside }

  pub put_then : {one two : List ℕ} {u v : Text} → Put one t u → Put two u v → Put (one ++ two) t v
  put_then first second =
      record {
        wrote = wrote_then first.wrote second.wrote (omega (arith, first.wrote.ends, first.same_length, first.inside));
        same_buffer = second.same_buffer ∙ first.same_buffer;
        same_length = second.same_length ∙ first.same_length;
        inside = second.inside;
      }

  pub put_as : {one two : List ℕ} {u : Text} → one ≡ two → Put one t u → Put two t u
  put_as {u = u} e p = subst (λ (l : List ℕ). Put l t u) e p
