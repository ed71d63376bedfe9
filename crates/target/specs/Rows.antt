-- The rows of an hour, one for each record of the rights file, and the call that gives them.
-- Assumes nothing.
use Rattle.std.specs.Prelude.{ℕ, ◌<◌, ◌≡◌, Bool, not, List, eqb, length, get_or, ℤ, pos}
use Rattle.numbers.specs.Limits.{owners}
use Rattle.numbers.specs.Lists.{list_below}
use Rattle.numbers.specs.Refusals.{answer_by}
use Rattle.calendar.specs.Year.{operating_hour}
use Rattle.rights.specs.Layout.{record_count}
use Rattle.target.specs.Target.{row_at, own_sum, call_refusal, target, target_refusal, target_lines}

-- "members see each right on its own row" (Wish 2)
unfoldable pub rows : ℕ → List ℕ → List ℤ → ℕ → List ℤ
rows year file prices hour = list_below (row_at file prices (operating_hour year hour)) (record_count file)

-- 4: lines that are not one for each record
abbrev pub is_wrong_row_count : List ℕ → ℕ → Bool
is_wrong_row_count file lines = not (eqb lines (record_count file))

-- the refusals of a row call: those of the target call, but for its number of lines
abbrev pub rows_refusal : ℕ → List ℕ → List ℤ → ℕ → ℕ → ℕ
rows_refusal year file prices hour lines = call_refusal year file prices hour (is_wrong_row_count file lines)

-- the lines after a row call
unfoldable pub row_lines : ℕ → List ℕ → List ℤ → ℕ → List ℤ → List ℤ
row_lines year file prices hour before =
    answer_by (rows_refusal year file prices hour (length before)) (rows year file prices hour) before

-- the lines of a row call, summed over an owner's own records
abbrev pub line_sum : List ℕ → ℕ → List ℤ → ℤ
line_sum file owner lines = own_sum file owner (λ number. get_or lines number (pos 0))

-- members "want the rows to add up" (Wish 2): the lines that an accepted row call writes add up, for each owner, to its target
abbrev pub RowsAddUp : Type 0
RowsAddUp =
    (year : ℕ) (file : List ℕ) (prices : List ℤ) (hour owner : ℕ) (before : List ℤ)
    → rows_refusal year file prices hour (length before) ≡ 0
    → line_sum file owner (row_lines year file prices hour before) ≡ target year file prices hour owner

-- and so do the two calls, each lent as many lines as it writes: they are refused alike, and an owner's rows add up to its line of the
-- target call
abbrev pub CallsAddUp : Type 0
CallsAddUp =
    (year : ℕ) (file : List ℕ) (prices : List ℤ) (hour owner : ℕ) (before lines : List ℤ) → length before ≡ record_count file
    → length lines ≡ owners → owner < owners
    → (rows_refusal year file prices hour (length before) ≡ target_refusal year file prices hour (length lines))
    × (rows_refusal year file prices hour (length before) ≡ 0
    → line_sum file owner (row_lines year file prices hour before) ≡ get_or (target_lines year file prices hour lines) owner (pos 0))
