-- What is read from an entry: nothing of a refused one, and of an accepted one what the rules give on the book before it.
-- Assumes nothing.
use Prim.Native.Nat.{ℕ, ◌+◌, ◌<◌}
use mathlib.Core.Path.{◌≡◌, refl, sym, ap, ◌∙◌}
use mathlib.Core.List.{List, ◌∷◌}
use lib.ListN.{length, get_or}
use lib.IntN.{ℤ, pos, ◌+ℤ◌}
use Rattle.numbers.specs.Limits.{owners}
use Rattle.numbers.specs.Lists.{total, list_below}
use Rattle.numbers.specs.Refusals.{answer_by}
use Rattle.numbers.specs.Signs.{positive, negative}
use Rattle.numbers.proofs.Refusals.{answer_accepted, answer_refused}
use Rattle.numbers.proofs.Counts.{list_below_ext}
use Rattle.settlement.specs.Events.{fund, demand, lines, book_after, refusal, Answered}
use Rattle.settlement.specs.Ledger.{Entry, book_at, if_accepted, at_hour, at_month_end, at_year_end, hour_count, month_end_count, year_end_count, over, since, sum_over, sum_since, balance_over, balance_since, call_positive, positive_target, line_of, credit, hour_credit, charge, call_amount, collection, of_all}
use Rattle.settlement.proofs.Shares.{paid_to, credit_is}
use Rattle.settlement.proofs.Refusing.{gives_number, gives_fund, gives_demand, gives_book_lem}

-- ---- sums, one entry further

module _ {A : Type 0} (none : A) (plus : A → A → A) (part : List Entry → Entry → A) (entry : Entry) (past : List Entry) where
  over_more : over none plus part (entry ∷ past) ≡ plus (part past entry) (over none plus part past)
  unfolding over
  over_more = refl

  since_more : month_end_count past entry ≡ 0 → since none plus part (entry ∷ past) ≡ plus (part past entry) (since none plus part past)
  unfolding since
  since_more zero = answer_accepted (month_end_count past entry) (plus (part past entry) (since none plus part past)) none zero

  since_none : month_end_count past entry ≡ 1 → since none plus part (entry ∷ past) ≡ none
  unfolding since
  since_none one = ap (λ (n : ℕ). answer_by n (plus (part past entry) (since none plus part past)) none) one

-- of counts and cents
module _ (part : List Entry → Entry → ℕ) (entry : Entry) (past : List Entry) where
  pub over_next : sum_over part (entry ∷ past) ≡ part past entry + sum_over part past
  over_next = over_more 0 ◌+◌ part entry past

  pub since_next : month_end_count past entry ≡ 0 → sum_since part (entry ∷ past) ≡ part past entry + sum_since part past
  since_next = since_more 0 ◌+◌ part entry past

  pub since_closed : month_end_count past entry ≡ 1 → sum_since part (entry ∷ past) ≡ 0
  since_closed = since_none 0 ◌+◌ part entry past

-- of cents of either sign
module _ (part : List Entry → Entry → ℤ) (entry : Entry) (past : List Entry) where
  pub balance_next : balance_over part (entry ∷ past) ≡ part past entry +ℤ balance_over part past
  balance_next = over_more (pos 0) ◌+ℤ◌ part entry past

  pub balance_since_next : month_end_count past entry ≡ 0 → balance_since part (entry ∷ past) ≡ part past entry +ℤ balance_since part past
  balance_since_next = since_more (pos 0) ◌+ℤ◌ part entry past

  pub balance_since_closed : month_end_count past entry ≡ 1 → balance_since part (entry ∷ past) ≡ pos 0
  balance_since_closed = since_none (pos 0) ◌+ℤ◌ part entry past

-- a part of all owners together, from the part of each
pub all_is : (part : ℕ → List Entry → Entry → ℕ) (past : List Entry) (entry : Entry) (each : ℕ → ℕ)
    → ((owner : ℕ) → owner < owners → part owner past entry ≡ each owner) → of_all part past entry ≡ total (list_below each owners)
unfolding of_all
all_is part past entry each is = ap total (list_below_ext (λ owner. part owner past entry) each owners is)

pub none_of_all : (part : ℕ → List Entry → Entry → ℕ) (past : List Entry) (entry : Entry)
    → ((owner : ℕ) → owner < owners → part owner past entry ≡ 0) → of_all part past entry ≡ 0
unfolding total list_below
none_of_all part past entry none = all_is part past entry (λ _. 0) none

-- ---- a refused entry

-- the parts that a refused entry has
pub record Nothing (year : ℕ) (past : List Entry) (entry : Entry) : Type 0 where
  pub hour : hour_count past entry ≡ 0
  pub month : month_end_count past entry ≡ 0
  pub year_end : year_end_count past entry ≡ 0
  pub target : (owner : ℕ) → positive_target year owner past entry ≡ 0
  pub credits : (owner : ℕ) → credit owner past entry ≡ 0
  pub hour_credits : (owner : ℕ) → hour_credit owner past entry ≡ 0
  pub charges : (owner : ℕ) → charge owner past entry ≡ 0
  pub collected : collection past entry ≡ pos 0

module _ (year : ℕ) (past : List Entry) (entry : Entry) (refused : entry.result.refusal ≡ 0 → ⊥) where
  nothing : (amount : ℕ) → if_accepted entry amount ≡ 0
  nothing amount = answer_refused entry.result.refusal amount 0 refused

  pub refused_nothing : Nothing year past entry
  unfolding hour_count month_end_count year_end_count positive_target credit hour_credit charge collection
  refused_nothing =
      record {
        hour = nothing (at_hour entry.call 1);
        month = nothing (at_month_end entry.call 1);
        year_end = nothing (at_year_end entry.call 1);
        target = λ owner. nothing (call_positive entry.call year (sum_over hour_count past) owner);
        credits = λ owner. nothing (positive (line_of entry owner));
        hour_credits = λ owner. nothing (at_hour entry.call (positive (line_of entry owner)));
        charges = λ owner. nothing (at_hour entry.call (negative (line_of entry owner)));
        collected = answer_refused entry.result.refusal (call_amount entry.call) (pos 0) refused;
      }

-- ---- an accepted entry, answered on the book before it

-- the parts that an accepted entry has
pub record Parts (year : ℕ) (past : List Entry) (entry : Entry) : Type 0 where
  pub hour : hour_count past entry ≡ at_hour entry.call 1
  pub month : month_end_count past entry ≡ at_month_end entry.call 1
  pub year_end : year_end_count past entry ≡ at_year_end entry.call 1
  pub target : (owner : ℕ) → positive_target year owner past entry ≡ call_positive entry.call year (sum_over hour_count past) owner
  pub credits : (owner : ℕ) → owner < owners → credit owner past entry ≡ paid_to entry.call (book_at year past) owner
  pub hour_credits : (owner : ℕ) → owner < owners
      → hour_credit owner past entry ≡ at_hour entry.call (paid_to entry.call (book_at year past) owner)
  pub charges : (owner : ℕ) → owner < owners
      → charge owner past entry ≡ at_hour entry.call (negative (get_or (lines entry.call (book_at year past)) owner (pos 0)))
  pub collected : collection past entry ≡ call_amount entry.call
  pub all_credits : of_all credit past entry ≡ total (list_below (paid_to entry.call (book_at year past)) owners)

module _ (year : ℕ) (past : List Entry) (entry : Entry)
    (answered : Answered entry.call (book_at year past) entry.lent entry.result entry.written)
    (accepted : entry.result.refusal ≡ 0) where
  pub by_table_lem : refusal entry.call (book_at year past) (length entry.lent) ≡ 0
  by_table_lem = sym (gives_number answered) ∙ accepted

  pub written_is : entry.written ≡ lines entry.call (book_at year past)
  written_is = answered.writes ∙ answer_accepted _ (lines entry.call (book_at year past)) entry.lent by_table_lem

  pub book_is : entry.result.book ≡ book_after entry.call (book_at year past)
  book_is = gives_book_lem answered ∙ answer_accepted _ (book_after entry.call (book_at year past)) (book_at year past) by_table_lem

  pub fund_is_lem : entry.result.fund ≡ fund entry.call (book_at year past)
  fund_is_lem = gives_fund answered ∙ answer_accepted _ (fund entry.call (book_at year past)) (pos 0) by_table_lem

  pub demand_is_lem : entry.result.demand ≡ demand entry.call (book_at year past)
  demand_is_lem = gives_demand answered ∙ answer_accepted _ (demand entry.call (book_at year past)) 0 by_table_lem

  line_at : (owner : ℕ) → line_of entry owner ≡ get_or (lines entry.call (book_at year past)) owner (pos 0)
  line_at owner = ap (λ (l : List ℤ). get_or l owner (pos 0)) written_is

  paid_at : (owner : ℕ) → owner < owners → positive (line_of entry owner) ≡ paid_to entry.call (book_at year past) owner
  paid_at owner inside = ap positive (line_at owner) ∙ credit_is entry.call (book_at year past) owner inside

  whole : (amount : ℕ) → if_accepted entry amount ≡ amount
  whole amount = answer_accepted entry.result.refusal amount 0 accepted

  pub accepted_parts : Parts year past entry
  unfolding hour_count month_end_count year_end_count positive_target credit hour_credit charge collection
  accepted_parts =
      record {
        hour = whole (at_hour entry.call 1);
        month = whole (at_month_end entry.call 1);
        year_end = whole (at_year_end entry.call 1);
        target = λ owner. whole (call_positive entry.call year (sum_over hour_count past) owner);
        credits = λ owner inside. whole (positive (line_of entry owner)) ∙ paid_at owner inside;
        hour_credits =
            λ owner inside. whole (at_hour entry.call (positive (line_of entry owner))) ∙ ap (at_hour entry.call) (paid_at owner inside);
        charges =
            λ owner inside.
            whole (at_hour entry.call (negative (line_of entry owner))) ∙ ap (λ (z : ℤ). at_hour entry.call (negative z)) (line_at owner);
        collected = answer_accepted entry.result.refusal (call_amount entry.call) (pos 0) accepted;
        all_credits =
            all_is credit past entry (paid_to entry.call (book_at year past))
            (λ owner inside. whole (positive (line_of entry owner)) ∙ paid_at owner inside);
      }
