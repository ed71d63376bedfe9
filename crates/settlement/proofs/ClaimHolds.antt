-- Demand 3: the claim holds of the ledger of every list of calls.
-- Assumes nothing.
use Prim.Native.Nat.{ℕ, ◌<◌}
use mathlib.Core.Path.{◌≡◌, sym, subst, ◌∙◌}
use mathlib.Core.List.{List, [], ◌∷◌}
use native.Mathlib.Decide.{ℕ_discrete}
use native.Mathlib.Nat.{le_antisymm}
use native.Mathlib.Omega.{arith}
use lib.ListN.{length}
use lib.IntN.{ℤ}
use borrow.Author.Differences.{ints}
use Rattle.numbers.specs.Limits.{owners}
use Rattle.numbers.proofs.Refusals.{answer_refused}
use Rattle.calendar.specs.Year.{months_in_year}
use Rattle.settlement.specs.Events.{Settled, Call, hour_call, month_end_call, year_end_call, wants, fund, lines, book_after, Answered}
use Rattle.settlement.specs.Ledger.{Entry, Asked, book_at, ledger_of, IsLedger}
use Rattle.settlement.specs.Claim.{IsOwed, IsFund, Shared, Sound, SoundAtEach, Claim}
use Rattle.settlement.proofs.Shares.{wanted, wants_long, paid_most, demand_of_all, near}
use Rattle.settlement.proofs.Sane.{not_spoiled}
use Rattle.settlement.proofs.Refusing.{never_1, never_15, gives_number, gives_book_lem}
use Rattle.settlement.proofs.Accepted.{hour_accepted, month_accepted, year_accepted}
use Rattle.settlement.proofs.EntryParts.{Parts, refused_nothing, written_is, book_is, fund_is_lem, demand_is_lem, accepted_parts}
use Rattle.settlement.proofs.OneLedger.{is_ledger}
use Rattle.settlement.proofs.Kept.{Kept, kept_fresh, kept_refused}
use Rattle.settlement.proofs.KeptHour.{hour_entry, kept_hour, target_is, brought}
use Rattle.settlement.proofs.KeptMonth.{month_entry, kept_month}
use Rattle.settlement.proofs.KeptYear.{year_entry, kept_year}
use Rattle.calendar.specs.Almanac.{is_outside}
use mathlib.Core.Bool.{false}

-- ---- the tie is kept by every entry

module _ (year : ℕ) (past : List Entry) (lent : List ℤ) (result : Settled) (written : List ℤ) (kept : Kept year past (book_at year past)) where
  -- an accepted call, by its kind
  kept_accepted : (call : Call) (answered : Answered call (book_at year past) lent result written) → result.refusal ≡ 0
      → Kept year (record { call = call; lent = lent; result = result; written = written } ∷ past) (book_after call (book_at year past))
  kept_accepted (hour_call file prices collected) answered accepted =
      kept_hour year past file prices collected lent result written kept (accepted_parts year past (hour_entry year past file prices collected lent result written) answered accepted)
      (hour_accepted file prices collected (book_at year past) (length lent) (sym (gives_number answered) ∙ accepted))
  kept_accepted month_end_call answered accepted =
      let shown = month_accepted (book_at year past) (length lent) (sym (gives_number answered) ∙ accepted) in
      kept_month year past lent result written kept (accepted_parts year past (month_entry year past lent result written) answered accepted) shown.0 shown.1
  kept_accepted year_end_call answered accepted =
      kept_year year past lent result written kept (accepted_parts year past (year_entry year past lent result written) answered accepted)
      (year_accepted (book_at year past) (length lent) (sym (gives_number answered) ∙ accepted)).1

  -- the year ends with all months closed
  year_closed : Answered year_end_call (book_at year past) lent result written → result.refusal ≡ 0 → (book_at year past).months ≡ months_in_year
  year_closed answered accepted =
      le_antisymm kept.sane.months_most (year_accepted (book_at year past) (length lent) (sym (gives_number answered) ∙ accepted)).1

  -- what is owed and what the fund is, by the kind of call
  owed_is : (call : Call) (answered : Answered call (book_at year past) lent result written) → result.refusal ≡ 0
      → (owner : ℕ) → owner < owners
      → IsOwed year past (record { call = call; lent = lent; result = result; written = written }) call owner (wanted call (book_at year past) owner)
  unfolding wants
  owed_is (hour_call file prices collected) answered accepted owner inside =
      sym
      (target_is year past file prices collected lent result written kept (accepted_parts year past (hour_entry year past file prices collected lent result written) answered accepted)
      (hour_accepted file prices collected (book_at year past) (length lent) (sym (gives_number answered) ∙ accepted)) owner inside)
  owed_is month_end_call answered accepted owner inside = kept.month_owner owner inside
  owed_is year_end_call answered accepted owner inside =
      omega (arith, kept.all_owner owner inside, (kept.empty_month (year_closed answered accepted)).0 owner inside)

  is_fund : (call : Call) (answered : Answered call (book_at year past) lent result written) → result.refusal ≡ 0
      → IsFund past (record { call = call; lent = lent; result = result; written = written }) call (fund call (book_at year past))
  unfolding fund
  is_fund (hour_call file prices collected) answered accepted =
      sym
      (brought year past file prices collected lent result written kept (accepted_parts year past (hour_entry year past file prices collected lent result written) answered accepted)
      (hour_accepted file prices collected (book_at year past) (length lent) (sym (gives_number answered) ∙ accepted)))
  is_fund month_end_call answered accepted = kept.month_fund
  is_fund year_end_call answered accepted =
      omega (arith, ints, kept.all_fund, (kept.empty_month (year_closed answered accepted)).1)

-- a refused call leaves the book and the lent lines as they were
module _ (year : ℕ) (past : List Entry) (entry : Entry)
    (answered : Answered entry.call (book_at year past) entry.lent entry.result entry.written)
    (refused : entry.result.refusal ≡ 0 → ⊥) where
  same_book : entry.result.book ≡ book_at year past
  same_book =
      gives_book_lem answered
      ∙ answer_refused _ (book_after entry.call (book_at year past)) (book_at year past) (λ e. refused (gives_number answered ∙ e))

  same_lines : entry.written ≡ entry.lent
  same_lines =
      answered.writes
      ∙ answer_refused _ (lines entry.call (book_at year past)) entry.lent (λ e. refused (gives_number answered ∙ e))

kept_next : (year : ℕ) (past : List Entry) (entry : Entry) → Kept year past (book_at year past)
    → Answered entry.call (book_at year past) entry.lent entry.result entry.written → Kept year (entry ∷ past) (book_at year (entry ∷ past))
unfolding book_at
kept_next year past entry kept answered = by_refusal (ℕ_discrete entry.result.refusal 0)
  where
    by_refusal : Dec (entry.result.refusal ≡ 0) → Kept year (entry ∷ past) entry.result.book
    by_refusal (yes accepted) =
        subst (Kept year (entry ∷ past)) (sym (book_is year past entry answered accepted))
        (kept_accepted year past entry.lent entry.result entry.written kept entry.call answered accepted)
    by_refusal (no refused) =
        subst (Kept year (entry ∷ past)) (sym (same_book year past entry answered refused))
        (kept_refused year past entry (book_at year past) kept (refused_nothing year past entry refused))

pub kept_all : (year : ℕ) → is_outside year ≡ false → (ledger : List Entry) → IsLedger year ledger → Kept year ledger (book_at year ledger)
unfolding book_at
kept_all year within [] tt = kept_fresh year within
kept_all year within (entry ∷ past) answered = kept_next year past entry (kept_all year within past answered.1) answered.0

-- ---- at each entry

module _ (year : ℕ) (past : List Entry) (entry : Entry) (kept : Kept year past (book_at year past))
    (answered : Answered entry.call (book_at year past) entry.lent entry.result entry.written) where
  shared_out : entry.result.refusal ≡ 0 → Shared year past entry
  shared_out accepted =
      record {
        want = wanted entry.call (book_at year past);
        owed = owed_is year past entry.lent entry.result entry.written kept entry.call answered accepted;
        fund_is =
            subst (IsFund past entry entry.call) (sym (fund_is_lem year past entry answered accepted))
            (is_fund year past entry.lent entry.result entry.written kept entry.call answered accepted);
        demand_is = demand_is_lem year past entry answered accepted ∙ demand_of_all entry.call (book_at year past) long;
        at_most = λ owner inside. rw (parts.credits owner inside) (paid_most entry.call (book_at year past) owner);
        near =
            λ owner inside.
            rw (parts.credits owner inside, fund_is_lem year past entry answered accepted, demand_is_lem year past entry answered accepted)
            (near entry.call (book_at year past) long owner inside);
      }
    where
      parts : Parts year past entry
      parts = accepted_parts year past entry answered accepted

      long : length (wants entry.call (book_at year past)) ≡ owners
      long = wants_long entry.call (book_at year past) kept.long

  sound_entry : Sound year past entry
  sound_entry =
      record {
        never_spoiled =
            λ e. never_1 entry.call (book_at year past) (length entry.lent) (not_spoiled (book_at year past) kept.sane) (sym (gives_number answered) ∙ e);
        never_outside =
            λ e. never_15 entry.call (book_at year past) (length entry.lent) kept.sane.in_range (sym (gives_number answered) ∙ e);
        same_year = kept.same_year;
        hours = kept.hours;
        months = kept.months;
        ended_after = kept.ended_after;
        ended_only = kept.ended_only;
        open_before = kept.all_owner;
        by_table = gives_number answered;
        by_rules = written_is year past entry answered;
        untouched = λ refused. (same_lines year past entry answered refused, same_book year past entry answered refused);
        shared = shared_out;
      }

sound_all : (year : ℕ) → is_outside year ≡ false → (ledger : List Entry) → IsLedger year ledger → SoundAtEach year ledger
sound_all year within [] tt = tt
sound_all year within (entry ∷ past) answered =
    (sound_entry year past entry (kept_all year within past answered.1) answered.0, sound_all year within past answered.1)

-- ---- demand 3

-- the claim holds of every ledger of every year
claim_of_ledger : (year : ℕ) → is_outside year ≡ false → (ledger : List Entry) → IsLedger year ledger → Claim year ledger
claim_of_ledger year within ledger answered =
    record {
      sound = sound_all year within ledger answered;
      keeps_year = kept.same_year;
      closes = omega (arith, ints, kept.all_fund);
      owner_closes = λ owner inside. omega (arith, kept.all_owner owner inside);
      year_closes = λ ended. kept.year_done (kept.ended_only ended);
    }
  where
    kept : Kept year ledger (book_at year ledger)
    kept = kept_all year within ledger answered

-- and so, for every list of calls, of the ledger that is worked out from them
pub claim : (year : ℕ) → is_outside year ≡ false → (calls : List Asked) → Claim year (ledger_of year calls)
claim year within calls = claim_of_ledger year within (ledger_of year calls) (is_ledger year calls)
