-- Sentences on writing a record (Wish 1), each shown of the rules themselves on records that are written out.
-- Assumes nothing.
use Rattle.std.specs.Prelude.{ℕ, ◌≡◌, refl, List, [], ◌∷◌, ◌++◌, pos}
use Rattle.numbers.specs.Lists.{total, any_below, lowest_below, sum_below, list_below, written}
use Rattle.numbers.specs.Refusals.{first_refusal}
use Rattle.numbers.specs.Words.{bytes_of}
use Rattle.calendar.specs.Almanac.{first_year, days_of_months, days_in_year, date, june_after, june_weekday, weekday, first_from, holidays, kept_on, kept_holidays, is_among, is_working}
use Rattle.calendar.specs.Year.{ends_from, month_ends, ended_by, month_of, is_peak, calendar_refusal, operating_hour}
use Rattle.rights.specs.declared.Right.{Right}
use Rattle.rights.specs.Layout.{right_at, laid_out, record_refusal}
use Rattle.rights.specs.Writing.{file_after}
use Rattle.target.specs.Rounding.{round_tenths}
use Rattle.target.specs.Target.{live_cents, row_cents, own_row, own_sum, target}
use Rattle.marked_cases.specs.WrittenOut.{right_until, right_to, prices_at}

-- a right to this day, and with "low byte first" its 16 bytes to day 365: 258 = 2 + 256, 1,023 = 255 + 3 * 256,
-- 100,000 = 160 + 134 * 256 + 65,536, 365 = 109 + 256
abbrev right_to_day : ℕ → Right
right_to_day last =
    record { owner = 7; source = 258; sink = 1023; kind = 1; class = 2; size = 100_000; first = 1; last = last }

unfoldable pub its_bytes : List ℕ
its_bytes = 7 ∷ 0 ∷ 2 ∷ 1 ∷ 255 ∷ 3 ∷ 1 ∷ 2 ∷ 160 ∷ 134 ∷ 1 ∷ 0 ∷ 1 ∷ 0 ∷ 109 ∷ 1 ∷ []

-- "written as the 16 bytes at a given record number in a lent file, every other byte unchanged": over the second of three
pub second_of_three : file_after first_year (right_to 1 10 ++ right_to 2 20 ++ right_to 3 30) 1 (right_to_day 365)
    ≡ right_to 1 10 ++ its_bytes ++ right_to 3 30
unfolding right_until its_bytes file_after record_refusal first_refusal written laid_out bytes_of list_below days_in_year days_of_months total
second_of_three = refl

-- "15 .., before any other check"; "a record number outside the file, or a file of wrong length, gets 4 first"; "Bad values get 7": of a right to
-- day 366, which is bad in the year that starts in 2025 and good in that of 2027
pub write_refusals :
    record_refusal 2100 (0 ∷ []) 1 (right_to_day 366)
    ∷ record_refusal 2025 (0 ∷ []) 0 (right_to_day 366)
    ∷ record_refusal 2025 [] 0 (right_to_day 366)
    ∷ record_refusal 2025 (right_to 1 10) 1 (right_to_day 366)
    ∷ record_refusal 2025 (right_to 1 10) 0 (right_to_day 366)
    ∷ record_refusal 2027 (right_to 1 10) 0 (right_to_day 366)
    ∷ []
    ≡ 15 ∷ 4 ∷ 4 ∷ 4 ∷ 7 ∷ 0 ∷ []
unfolding right_until record_refusal first_refusal days_in_year days_of_months total
write_refusals = refl

-- "Rights pass from owner to owner .. and the file has to follow": a right of owner 0 is written with owner 9, and in hour 0 its 10,000 cents are
-- owner 9's
abbrev owned_by : ℕ → Right → Right
owned_by owner right =
    record {
      owner = owner;
      source = right.source;
      sink = right.sink;
      kind = right.kind;
      class = right.class;
      size = right.size;
      first = right.first;
      last = right.last;
    }

unfoldable pub passed_on : List ℕ
passed_on = file_after first_year (right_to 1 100) 0 (owned_by 9 (right_at (right_to 1 100) 0))

pub new_owner : (target first_year passed_on (prices_at (pos 500) (pos 1500)) 0 0 ≡ pos 0)
    × (target first_year passed_on (prices_at (pos 500) (pos 1500)) 0 9 ≡ pos 10_000)
unfolding right_until passed_on file_after record_refusal written laid_out bytes_of list_below prices_at any_below first_refusal target own_sum sum_below own_row row_cents live_cents round_tenths operating_hour calendar_refusal month_of month_ends ends_from ended_by days_of_months days_in_year total june_after june_weekday weekday date first_from lowest_below holidays kept_on kept_holidays is_peak is_working is_among
new_owner = (refl, refl)
