-- Over lists of events on books laid out by owner the claim carries across.
-- Assumes nothing.
use Prim.Native.Nat.{ℕ, ◌+◌}
use mathlib.Core.Path.{◌≡◌, refl, sym, ap, ap₂, subst, ◌∙◌}
use mathlib.Core.Bool.{false}
use mathlib.Core.List.{List, [], ◌∷◌, map}
use Rattle.calendar.specs.Almanac.{is_outside}
use Rattle.settlement.specs.Book.{Book, fresh, open_shortfall}
use Rattle.settlement.specs.ByOwner.{read_off, laid_out}
use Rattle.settlement.specs.Events.{Settled, Answered}
use Rattle.settlement.specs.Ledger.{asked, book_at, ledger_of, IsLedger}
use Rattle.settlement.specs.Claim.{Claim}
use Rattle.settlement.specs.ListsByOwner.{EntryByOwner, kept_at, IsListByOwner, entry_off, ledger_off, CarriesAcross}
use Rattle.settlement.proofs.ByOwner.{book_is, read_back, read_month, read_year}
use Rattle.settlement.proofs.ClaimHolds.{claim}
use Rattle.settlement.proofs.OneLedger.{only_ledger}
use Rattle.settlement.proofs.SameCells.{fresh_long}

module _ (year : ℕ) where
  read_at : (list : List EntryByOwner) → book_at year (ledger_off list) ≡ read_off (kept_at year list)
  unfolding book_at kept_at
  read_at [] = sym (read_back (fresh year) (fresh_long year))
  read_at (entry ∷ past) = book_is entry.given.outcome (read_off entry.given.book)

  -- each entry that is read off is answered by the rules
  is_ledger : (list : List EntryByOwner) → IsListByOwner year list → IsLedger year (ledger_off list)
  is_ledger [] tt = tt
  is_ledger (entry ∷ past) answered = (
    subst (λ (b : Book). Answered entry.call b entry.lent (entry_off entry).result entry.written) (sym (read_at past)) answered.0.as_ruled,
    is_ledger past answered.1,
  )

  -- the book is laid out, by the last call or from the start
  laid_at : (list : List EntryByOwner) → IsListByOwner year list → kept_at year list ≡ laid_out (book_at year (ledger_off list))
  unfolding book_at kept_at
  laid_at [] tt = refl
  laid_at (entry ∷ past) answered = answered.0.laid ∙ ap (λ (r : Settled). laid_out r.book) (sym answered.0.as_ruled.gives)

  pub carries_across : is_outside year ≡ false → (list : List EntryByOwner) → IsListByOwner year list → CarriesAcross year list
  carries_across within list answered =
      record {
        ledger = is;
        claim = subst (Claim year) (sym is) (claim year within (map asked (ledger_off list)));
        read = read_at list;
        laid = laid_at list answered;
        open_cells =
            λ owner inside.
            ap (λ (b : Book). open_shortfall b owner) (read_at list)
            ∙ ap₂ (λ (m n : ℕ). m + n) (read_month owner inside (kept_at year list)) (read_year owner inside (kept_at year list));
      }
    where
      is : ledger_off list ≡ ledger_of year (map asked (ledger_off list))
      is = only_ledger year (map asked (ledger_off list)) (ledger_off list) (is_ledger list answered) refl
