-- What a call answers with and without the room that it asks for.
-- Assumes nothing.
use Prim.Native.Nat.{ℕ, ◌+◌, ◌≤◌, ◌<◌}
use mathlib.Core.Path.{◌≡◌, refl, sym, ap, ◌∙◌}
use mathlib.Core.Bool.{Bool, true, false, cond}
use mathlib.Core.List.{List}
use native.Mathlib.Omega.{arith}
use lib.ListN.{length}
use lib.Dec.{leb}
use borrow.Author.Tests.{leb-true, leb-false, le-leb, lt-leb}
use Rattle.numbers.specs.Lists.{written}
use Rattle.statement_text.specs.Buffer.{text_after, end_after}
use Rattle.statement_text.specs.InnerContracts.{Wrote}
use Rattle.numbers.proofs.Written.{written_reaches}

module _ (room : ℕ) (text before : List ℕ) (at : ℕ) where
  pub with_room : (after : List ℕ) (end : ℕ) → at + room ≤ length before → Wrote text before at after end
      → (end ≡ end_after room text before at) × (after ≡ text_after room text before at)
  unfolding end_after text_after
  with_room after end enough w = (
    w.ends ∙ sym (ap (λ (t : Bool). cond t (at + length text) at) (le-leb (at + room) (length before) enough)),
    w.buffer ∙ sym (ap (λ (t : Bool). cond t (written before at text) before) (le-leb (at + room) (length before) enough)),
  )

  pub without_room : length before < at + room
      → (at ≡ end_after room text before at) × (before ≡ text_after room text before at)
  unfolding end_after text_after
  without_room short = (
    sym (ap (λ (t : Bool). cond t (at + length text) at) (lt-leb (at + room) (length before) short)),
    sym (ap (λ (t : Bool). cond t (written before at text) before) (lt-leb (at + room) (length before) short)),
  )

  -- with room or without, the text ends within the buffer
  pub ends_within : {after : List ℕ} {end : ℕ} → end ≡ end_after room text before at → after ≡ text_after room text before at
      → at ≤ length before → end ≤ length after
  ends_within {after} {end} ends buffer inside = by_room (leb (at + room) (length before)) refl
    where
      by_room : (test : Bool) → leb (at + room) (length before) ≡ test → end ≤ length after
      by_room true enough =
          let is = with_room (written before at text) (at + length text) (leb-true (at + room) (length before) enough) (record { ends = refl; buffer = refl }) in
          omega (arith, ends ∙ sym is.0, ap length (buffer ∙ sym is.1), written_reaches before at text inside)
      by_room false short =
          let is = without_room (leb-false (at + room) (length before) short) in
          omega (arith, ends ∙ sym is.0, ap length (buffer ∙ sym is.1))
