-- Demand 3 holds of the lines that every run prints, for every rights file and every input.
-- Assumes nothing.
use Prim.Native.Nat.{ℕ, ◌<◌}
use mathlib.Core.Path.{◌≡◌, refl, sym, ap, subst, ◌∙◌}
use mathlib.Core.Bool.{Bool, true, false}
use mathlib.Core.Logic.{◌⊎◌}
use mathlib.Core.List.{List}
use native.Mathlib.Omega.{arith}
use lib.IntN.{pos}
use lib.Signed.{◌≤ℤ◌}
use borrow.Author.Differences.{ints}
use Rattle.numbers.specs.Limits.{owners}
use Rattle.numbers.specs.Lists.{total}
use Rattle.numbers.proofs.Counts.{list_below_ext}
use Rattle.settlement.specs.Book.{Book, open_shortfall, is_short, fund_left}
use Rattle.settlement.specs.Ledger.{Entry, book_at, ledger_of, IsLedger, sum_over, balance_over, hour_count, positive_target, credit, charge, collection, of_all}
use Rattle.settlement.specs.Claim.{Claim}
use Rattle.settlement.proofs.ClaimHolds.{claim, kept_all}
use Rattle.settlement.proofs.OneLedger.{is_ledger}
use Rattle.settlement.proofs.RunLaws.{over_all}
use Rattle.statement_text.specs.Text.{Line}
use Rattle.settlement_run.specs.Run.{Part, program_year, block_count, whole_run, all_lines}
use Rattle.settlement_run.specs.PrintedClaim.{credit_in, charge_in, sum_lines, of_owners, collected_in, targets_in, CreditsPrinted, PrintedClaim}
use Rattle.settlement_run.proofs.PrintedCredits.{credits_printed_lem}
use Rattle.settlement_run.proofs.PrintedFund.{all_fund_lem}
use Rattle.settlement_run.proofs.PrintedSums.{all_credits_lem, all_charges}
use Rattle.settlement_run.proofs.RunLedger.{Made, made_run}

module _ (file input : List ℕ) (blocks : ℕ) (run : Part) (made : Made file input blocks run) where
  abbrev ledger : List Entry
  ledger = ledger_of program_year run.calls

  answered : IsLedger program_year ledger
  answered = is_ledger program_year run.calls

  whole : Claim program_year ledger
  whole = claim program_year refl run.calls

  hours_are : run.book.hours ≡ sum_over hour_count ledger
  hours_are = sym (ap (λ (book : Book). book.hours) made.reached) ∙ (kept_all program_year refl ledger answered).hours

  fund_is_lem : fund_left (book_at program_year ledger) ≡ fund_left run.book
  fund_is_lem = ap fund_left made.reached

  -- what all owners' lines come to
  credits_are : of_owners (λ owner. sum_lines (credit_in owner) (all_lines run)) ≡ sum_over (of_all credit) ledger
  credits_are =
      ap total
      (list_below_ext (λ owner. sum_lines (credit_in owner) (all_lines run)) (λ owner. sum_over (credit owner) ledger) owners
      (all_credits_lem run ledger answered made.prints))
      ∙ sym (over_all credit ledger)

  charges_are : of_owners (λ owner. sum_lines (charge_in owner) (all_lines run)) ≡ sum_over (of_all charge) ledger
  charges_are =
      ap total
      (list_below_ext (λ owner. sum_lines (charge_in owner) (all_lines run)) (λ owner. sum_over (charge owner) ledger) owners
      (all_charges run ledger answered made.prints))
      ∙ sym (over_all charge ledger)

  collected_is : collected_in input run.book.hours ≡ balance_over collection ledger
  collected_is = ap (collected_in input) hours_are ∙ sym made.collected

  targets_are : (owner : ℕ) → targets_in file input owner run.book.hours ≡ sum_over (positive_target program_year owner) ledger
  targets_are owner = ap (targets_in file input owner) hours_are ∙ sym (made.targeted owner)

  short_is : (owner : ℕ) → open_shortfall (book_at program_year ledger) owner ≡ open_shortfall run.book owner
  short_is owner = ap (λ (book : Book). open_shortfall book owner) made.reached

  year_closes_lem : run.book.ended ≡ true
      → (fund_left run.book ≤ℤ pos 0) ⊎ ((owner : ℕ) → owner < owners → is_short run.book owner ≡ false)
  year_closes_lem ended =
      subst (λ (book : Book). (fund_left book ≤ℤ pos 0) ⊎ ((owner : ℕ) → owner < owners → is_short book owner ≡ false)) made.reached
      (whole.year_closes
      ((kept_all program_year refl ledger answered).ended_after (ap (λ (book : Book). book.ended) made.reached ∙ ended)))

  made_claim : PrintedClaim file input run
  made_claim =
      record {
        claim = whole;
        reached = made.reached;
        prints = made.prints;
        credits_printed =
            subst (λ (printed : List Line). CreditsPrinted printed ledger) (sym made.prints) (credits_printed_lem ledger answered);
        closes = omega (arith, ints, whole.closes, collected_is, credits_are, charges_are, fund_is_lem);
        prints_fund = all_fund_lem run ledger made.prints;
        owner_closes =
            λ owner inside.
            omega
            (arith, whole.owner_closes owner inside, targets_are owner, all_credits_lem run ledger answered made.prints owner inside, short_is owner);
        year_closes = year_closes_lem;
      }

pub printed_claim : (readable : Bool) (file input : List ℕ) → PrintedClaim file input (whole_run readable file input)
printed_claim readable file input =
    made_claim file input (block_count input) (whole_run readable file input) (made_run file input readable (block_count input))
