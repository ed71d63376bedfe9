-- The table of the days of a year; the constant table is that of the year that starts in 2025.
-- Assumes nothing.
use Prim.Native.Nat.{ℕ, ◌<◌, ◌≤◌}
use mathlib.Core.Path.{◌≡◌, refl, sym, ap, ◌∙◌}
use mathlib.Core.Bool.{true, false}
use mathlib.Core.List.{List, ◌++◌}
use lib.ListN.{get_or, length, drop}
use borrow.Author.Tests.{lt-ltb, le-ltb}
use Rattle.numbers.specs.Lists.{list_below, total, any_below, lowest_below}
use Rattle.std.specs.Prelude.{Ok, Err}
use Rattle.numbers.specs.declared.refusal.Refusal.TheVariants.{WrongLength, NoSuchYear}
use Rattle.numbers.specs.Refusals.{answered, first_refusal}
use Rattle.numbers.proofs.Refusals.{IsNumber, is_number}
use Rattle.numbers.proofs.Tables.{table_rule}
use Rattle.numbers.proofs.Counts.{list_below_get_or, list_below_ext}
use Rattle.calendar.specs.declared.days.TheConstants.{DAYS}
use Rattle.calendar.specs.Almanac.{first_year, is_outside, days_of_months, days_in_year, date, june_after, june_weekday, weekday, first_from, holidays, kept_on, kept_holidays, is_among, is_working}
use Rattle.calendar.specs.Year.{ends_from, month_ends, ended_by, month_of, day_entry, day_table, table_refusal, table_after}

pub days_of_2025 : days_in_year first_year ≡ 365
unfolding days_in_year days_of_months total
days_of_2025 = refl

-- "its rule holds at every entry", by one test that is computed over the whole table
pub constant_rule : (before : ℕ) → before < 365 → get_or DAYS before 0 ≡ day_entry first_year before
unfolding day_entry month_of month_ends ends_from ended_by is_working kept_holidays holidays kept_on first_from lowest_below any_below date weekday june_weekday june_after days_in_year days_of_months total is_among
constant_rule before inside = table_rule (day_entry first_year) DAYS tt before inside

-- "For 2025 the generator gives exactly the constant table"
pub table_of_2025 : day_table first_year ≡ DAYS
unfolding day_table
table_of_2025 =
    ap (list_below (day_entry first_year)) days_of_2025
    ∙ list_below_ext (day_entry first_year) (λ before. get_or DAYS before 0) 365 (λ before inside. sym (constant_rule before inside))
    ∙ list_below_get_or DAYS 0

-- ---- what the call answers, and the lent table after it

module _ (year : ℕ) (before : List ℕ) where
  abbrev number : ℕ
  number = table_refusal year (length before)

  pub table_no_year_number : is_outside year ≡ true → table_refusal year (length before) ≡ 15
  unfolding table_refusal first_refusal
  table_no_year_number outside = rw outside

  too_short : is_outside year ≡ false → length before < days_in_year year → number ≡ 4
  unfolding table_refusal first_refusal
  too_short within short = rw (within, lt-ltb (length before) (days_in_year year) short)

  enough : is_outside year ≡ false → days_in_year year ≤ length before → number ≡ 0
  unfolding table_refusal first_refusal
  enough within long = rw (within, le-ltb (length before) (days_in_year year) long)

  -- each number of the call is a refusal's
  pub table_number : IsNumber (table_refusal year (length before))
  unfolding table_refusal
  table_number = is_number _ refl

  -- a refused call: its answer, and the table as it was
  pub table_no_year : is_outside year ≡ true → Err NoSuchYear ≡ answered (table_refusal year (length before)) 0 (days_in_year year)
  table_no_year outside = rw (table_no_year_number outside)

  pub table_kept_no_year : is_outside year ≡ true → before ≡ table_after year before
  unfolding table_after
  table_kept_no_year outside = rw (table_no_year_number outside)

  pub table_too_short : is_outside year ≡ false → length before < days_in_year year
      → Err WrongLength ≡ answered (table_refusal year (length before)) 0 (days_in_year year)
  table_too_short within short = rw (too_short within short)

  pub table_kept_short : is_outside year ≡ false → length before < days_in_year year → before ≡ table_after year before
  unfolding table_after
  table_kept_short within short = rw (too_short within short)

  -- an accepted one
  pub table_taken : is_outside year ≡ false → days_in_year year ≤ length before
      → Ok (days_in_year year) ≡ answered (table_refusal year (length before)) 0 (days_in_year year)
  table_taken within long = rw (enough within long)

  pub table_written : is_outside year ≡ false → days_in_year year ≤ length before
      → day_table year ++ drop (days_in_year year) before ≡ table_after year before
  unfolding table_after
  table_written within long = rw (enough within long)
