-- What the billing host in C is given, in numbers only.
-- Assumes nothing.
use Rattle.std.specs.Prelude.{ℕ, ◌+◌, ◌*◌, cond}
use Rattle.numbers.specs.Refusals.{answer_by}
use Rattle.calendar.specs.Year.{calendar_refusal, month_of, is_peak}

-- "twice the month number, plus 1 in a peak hour, or 255 for an hour above 8,759", by the year; "the C host gets 255 for 15 too"
unfoldable pub billing_class : ℕ → ℕ → ℕ
billing_class year hour = answer_by (calendar_refusal year hour) (2 * month_of year hour + cond (is_peak year hour) 1 0) 255
