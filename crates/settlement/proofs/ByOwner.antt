-- The layout by owner: what is read off and laid out again is the same, one way and the other, and so is the sum of all cells.
-- Assumes nothing.
use Prim.Native.Nat.{ℕ, zero, suc, ◌+◌, ◌*◌, ◌/◌, ◌%◌, ◌<◌}
use mathlib.Core.Path.{◌≡◌, refl, sym, ap, ap₂, subst, ◌∙◌}
use mathlib.Core.List.{List}
use native.Mathlib.Decide.{ℕ_discrete}
use native.Mathlib.Omega.{arith}
use lib.ListN.{length, get_or, replicate}
use lib.IntN.{ℤ}
use borrow.Author.Tests.{eq-eqb, ne_eqb}
use Rattle.std.specs.Prelude.{Result, Ok, Err}
use Rattle.numbers.specs.Limits.{owners}
use Rattle.numbers.specs.Lists.{total, list_below}
use Rattle.numbers.specs.Refusals.{answer_by}
use Rattle.numbers.proofs.Refusals.{answer_accepted}
use Rattle.numbers.proofs.Counts.{get_or_list_below, length_list_below, list_of_elements, list_below_ext, total_suc}
use Rattle.numbers.specs.declared.refusal.Refusal.{Refusal}
use Rattle.settlement.specs.declared.Book.{Book as ByOwner}
use Rattle.settlement.specs.declared.Funding.{Funding}
use Rattle.settlement.specs.Book.{Book, fresh, year_refusal, opened, month_short, year_short}
use Rattle.settlement.specs.ByOwner.{cell_count, cells_from, cell_at, by_owner, read_off, laid_out, month_cell, year_cell, CellsMove, AnsweredByOwner}
use Rattle.settlement.specs.Events.{Call, hour_call, month_end_call, year_end_call, Settled, result_of, book_after, refusal, Answered}
use Rattle.settlement.proofs.SameCells.{fresh_long, long_after}
use Rattle.settlement.proofs.Payouts.{nothing_to}
use Rattle.settlement.proofs.Shares.{IsLong, unpaid, added_at}

-- ---- a cell at its place

module _ (month year : List ℕ) (owner : ℕ) where
  even_place : cell_at month year (2 * owner) ≡ get_or month owner 0
  even_place =
      let even : 2 * owner % 2 ≡ 0 = omega arith in
      let half : 2 * owner / 2 ≡ owner = omega arith in
      rw (eq-eqb (2 * owner % 2) 0 even) (ap (λ (i : ℕ). get_or month i 0) half)

  next_place : cell_at month year (2 * owner + 1) ≡ get_or year owner 0
  next_place =
      let odd : (2 * owner + 1) % 2 ≡ 1 = omega arith in
      let half : (2 * owner + 1) / 2 ≡ owner = omega arith in
      rw (ne_eqb ((2 * owner + 1) % 2) 0 (λ e. omega arith)) (ap (λ (i : ℕ). get_or year i 0) half)

-- a cell that is laid out, and one that is read off
module _ (owner : ℕ) (inside : owner < owners) where
  laid_month : (month year : List ℕ) → get_or (by_owner month year) (2 * owner) 0 ≡ get_or month owner 0
  unfolding by_owner
  laid_month month year = get_or_list_below (cell_at month year) cell_count 0 (2 * owner) (omega arith) ∙ even_place month year owner

  laid_year : (month year : List ℕ) → get_or (by_owner month year) (2 * owner + 1) 0 ≡ get_or year owner 0
  unfolding by_owner
  laid_year month year = get_or_list_below (cell_at month year) cell_count 0 (2 * owner + 1) (omega arith) ∙ next_place month year owner

  pub read_month : (kept : ByOwner) → month_short (read_off kept) owner ≡ month_cell kept owner
  unfolding cells_from
  read_month kept =
      let same : 2 * owner + 0 ≡ 2 * owner = omega arith in
      get_or_list_below (λ o. get_or kept.shortfalls (2 * o + 0) 0) owners 0 owner inside
      ∙ ap (λ (place : ℕ). get_or kept.shortfalls place 0) same

  pub read_year : (kept : ByOwner) → year_short (read_off kept) owner ≡ year_cell kept owner
  unfolding cells_from
  read_year kept = get_or_list_below (λ o. get_or kept.shortfalls (2 * o + 1) 0) owners 0 owner inside

-- ---- laid out and read off

module _ (month year : List ℕ) where
  month_back : length month ≡ owners → cells_from (by_owner month year) 0 ≡ month
  unfolding cells_from by_owner
  month_back all =
      list_below_ext _ (λ owner. get_or month owner 0) owners
      (λ owner inside.
      let same : 2 * owner + 0 ≡ 2 * owner = omega arith in
      get_or_list_below (cell_at month year) cell_count 0 (2 * owner + 0) (omega arith)
      ∙ ap (cell_at month year) same
      ∙ even_place month year owner)
      ∙ list_of_elements month 0 all

  year_back : length year ≡ owners → cells_from (by_owner month year) 1 ≡ year
  unfolding cells_from by_owner
  year_back all =
      list_below_ext _ (λ owner. get_or year owner 0) owners
      (λ owner inside.
      get_or_list_below (cell_at month year) cell_count 0 (2 * owner + 1) (omega arith) ∙ next_place month year owner)
      ∙ list_of_elements year 0 all

-- a book of the rules with a cell for each owner
pub read_back : (book : Book) → IsLong book → read_off (laid_out book) ≡ book
read_back book long =
    λ i.
    record {
      year = book.year;
      hours = book.hours;
      months = book.months;
      ended = book.ended;
      monthshort = month_back book.monthshort book.yearshort long.month i;
      yearshort = year_back book.monthshort book.yearshort long.year i;
      monthbalance = book.monthbalance;
      yearbalance = book.yearbalance;
    }

-- the book that is opened for any number as a year
pub opened_back : (year : ℕ) → read_off (laid_out (opened year)) ≡ opened year
unfolding opened
opened_back year = by_refusal (year_refusal year)
  where
    by_refusal : (number : ℕ) → read_off (laid_out (answer_by number (fresh year) (fresh 0))) ≡ answer_by number (fresh year) (fresh 0)
    by_refusal zero = read_back (fresh year) (fresh_long year)
    by_refusal (suc n) = read_back (fresh 0) (fresh_long 0)

-- ---- read off and laid out

-- a cell of those that are read, at its place
cell_back : (shortfalls : List ℕ) (place : ℕ) → place < cell_count
    → cell_at (cells_from shortfalls 0) (cells_from shortfalls 1) place ≡ get_or shortfalls place 0
unfolding cells_from
cell_back shortfalls place inside = by_half (ℕ_discrete (place % 2) 0)
  where
    read : (start : ℕ) → get_or (list_below (λ owner. get_or shortfalls (2 * owner + start) 0) owners) (place / 2) 0 ≡ get_or shortfalls (2 * (place / 2) + start) 0
    read start = get_or_list_below (λ owner. get_or shortfalls (2 * owner + start) 0) owners 0 (place / 2) (omega arith)

    by_half : Dec (place % 2 ≡ 0) → cell_at (list_below (λ owner. get_or shortfalls (2 * owner + 0) 0) owners) (list_below (λ owner. get_or shortfalls (2 * owner + 1) 0) owners) place ≡ get_or shortfalls place 0
    by_half (yes even) =
        let whole : 2 * (place / 2) + 0 ≡ place = omega arith in
        rw (eq-eqb (place % 2) 0 even) (read 0 ∙ ap (λ (i : ℕ). get_or shortfalls i 0) whole)
    by_half (no odd) =
        let whole : 2 * (place / 2) + 1 ≡ place = omega (arith, odd) in
        rw (ne_eqb (place % 2) 0 odd) (read 1 ∙ ap (λ (i : ℕ). get_or shortfalls i 0) whole)

cells_back : (shortfalls : List ℕ) → length shortfalls ≡ cell_count
    → by_owner (cells_from shortfalls 0) (cells_from shortfalls 1) ≡ shortfalls
unfolding by_owner
cells_back shortfalls all =
    list_below_ext _ (λ place. get_or shortfalls place 0) cell_count (cell_back shortfalls) ∙ list_of_elements shortfalls 0 all

-- so the month's and the year's cells decide all 128
pub laid_as : (shortfalls : List ℕ) {month year : List ℕ} → length shortfalls ≡ cell_count → cells_from shortfalls 0 ≡ month
    → cells_from shortfalls 1 ≡ year → shortfalls ≡ by_owner month year
laid_as shortfalls all m y = sym (cells_back shortfalls all) ∙ ap₂ by_owner m y

-- no shortfalls at all
pub none_laid : by_owner (replicate owners 0) (replicate owners 0) ≡ replicate cell_count 0
unfolding by_owner list_below
none_laid = refl

-- a book by owner with its 128 cells
pub laid_back : (kept : ByOwner) → length kept.shortfalls ≡ cell_count → laid_out (read_off kept) ≡ kept
laid_back kept all =
    λ i.
    record {
      year = kept.year;
      hours = kept.hours;
      months = kept.months;
      ended = kept.ended;
      shortfalls = cells_back kept.shortfalls all i;
      monthbalance = kept.monthbalance;
      yearbalance = kept.yearbalance;
    }

-- cells that are laid out are 128
pub laid_long : (month year : List ℕ) → length (by_owner month year) ≡ cell_count
unfolding by_owner
laid_long month year = length_list_below _ cell_count

-- the cells that are read, one for each owner
pub read_long : (kept : ByOwner) → IsLong (read_off kept)
unfolding cells_from
read_long kept = record { month = length_list_below _ owners; year = length_list_below _ owners }

-- ---- the sum of all cells

-- of twice as many numbers: those of the even places and those of the odd
total_halves : (f : ℕ → ℕ) (n : ℕ)
    → total (list_below f (2 * n)) ≡ total (list_below (λ i. f (2 * i + 0)) n) + total (list_below (λ i. f (2 * i + 1)) n)
total_halves f zero = unfold list_below total in refl
total_halves f (suc n) =
    let twice : 2 * suc n ≡ suc (suc (2 * n)) = omega arith in
    let first : f (2 * n) ≡ f (2 * n + 0) = ap f (omega arith) in
    let next : f (suc (2 * n)) ≡ f (2 * n + 1) = ap f (omega arith) in
    ap (λ (m : ℕ). total (list_below f m)) twice
    ∙ omega
    (arith, total_halves f n, total_suc f (2 * n), total_suc f (suc (2 * n)), total_suc (λ i. f (2 * i + 0)) n, total_suc (λ i. f (2 * i + 1)) n, first, next)

pub total_read : (shortfalls : List ℕ) → length shortfalls ≡ cell_count
    → total shortfalls ≡ total (cells_from shortfalls 0) + total (cells_from shortfalls 1)
unfolding cells_from
total_read shortfalls all =
    ap total (sym (list_of_elements shortfalls 0 all)) ∙ total_halves (λ place. get_or shortfalls place 0) owners

-- ---- an event

-- the book of a result is the one that is handed back
pub book_is : (outcome : Result Funding Refusal) (book : Book) → (result_of outcome book).book ≡ book
book_is (Ok funding) book = refl
book_is (Err refusal) book = refl

-- what the rules answer on the book that is read off is what they promise of the book by owner
module _ (call : Call) (kept : ByOwner) (lent : List ℤ) (outcome : Result Funding Refusal) (after : List ℤ) where
  by_rules : (next : ByOwner) → length next.shortfalls ≡ cell_count → Answered call (read_off kept) lent (result_of outcome (read_off next)) after
      → AnsweredByOwner call kept lent outcome next after
  by_rules next all answered =
      record {
        as_ruled = answered;
        laid =
            sym (laid_back next all)
            ∙ ap laid_out (sym (book_is outcome (read_off next)) ∙ ap (λ (r : Settled). r.book) answered.gives);
      }

  -- refused: the book is the one given
  pub refused_by_owner : length kept.shortfalls ≡ cell_count → Answered call (read_off kept) lent (result_of outcome (read_off kept)) after
      → AnsweredByOwner call kept lent outcome kept after
  refused_by_owner all answered = by_rules kept all answered

  -- accepted: the book is that of the rules, laid out
  pub accepted_by_owner : {next : ByOwner} → next ≡ laid_out (book_after call (read_off kept))
      → Answered call (read_off kept) lent (result_of outcome (book_after call (read_off kept))) after
      → AnsweredByOwner call kept lent outcome next after
  accepted_by_owner {next} is answered =
      by_rules next (ap (λ (b : ByOwner). length b.shortfalls) is ∙ laid_long _ _)
      (subst (λ (b : Book). Answered call (read_off kept) lent (result_of outcome b) after) (sym read) answered)
    where
      read : read_off next ≡ book_after call (read_off kept)
      read = ap read_off is ∙ read_back (book_after call (read_off kept)) (long_after call (read_off kept) (read_long kept))

-- ---- one owner's cells after an accepted call

module _ (kept : ByOwner) (owner : ℕ) (inside : owner < owners) where
  laid_cells : (call : Call) → CellsMove call kept (laid_out (book_after call (read_off kept))) owner
  unfolding book_after
  laid_cells (hour_call file prices collected) = (
    laid_month owner inside _ _
        ∙ added_at (read_off kept).monthshort (unpaid (hour_call file prices collected) (read_off kept)) owner inside
        ∙ ap₂ (λ (m n : ℕ). m + n) (read_month owner inside kept) refl,
    laid_year owner inside _ _ ∙ read_year owner inside kept,
  )
  laid_cells month_end_call = (
    laid_month owner inside _ _ ∙ nothing_to owners owner,
    laid_year owner inside _ _
        ∙ added_at (read_off kept).yearshort (unpaid month_end_call (read_off kept)) owner inside
        ∙ ap₂ (λ (m n : ℕ). m + n) (read_year owner inside kept) refl,
  )
  laid_cells year_end_call = (
    laid_month owner inside _ _ ∙ read_month owner inside kept,
    laid_year owner inside _ _,
  )

  -- and so after any accepted call that the library has answered
  pub cells_move : (call : Call) (lent : List ℤ) (outcome : Result Funding Refusal) (next : ByOwner) (after : List ℤ)
      → AnsweredByOwner call kept lent outcome next after → refusal call (read_off kept) (length lent) ≡ 0 → CellsMove call kept next owner
  cells_move call lent outcome next after answered accepted =
      subst (λ (b : ByOwner). CellsMove call kept b owner)
      (sym (answered.laid ∙ ap laid_out (answer_accepted _ (book_after call (read_off kept)) (read_off kept) accepted))) (laid_cells call)
