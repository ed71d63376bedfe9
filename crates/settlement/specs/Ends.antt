-- The month end and the year end, as the ends of a period.
-- Assumes nothing.
use Rattle.settlement.specs.declared.End.{End}
use Rattle.settlement.specs.declared.End.TheVariants.{Month, Year}
use Rattle.settlement.specs.declared.Event.{Event}
use Rattle.settlement.specs.declared.Event.TheVariants.{MonthEnd, YearEnd}
use Rattle.settlement.specs.Events.{Call, month_end_call, year_end_call}

-- its event, and its call
abbrev pub event_at : End → Event
event_at Month = MonthEnd
event_at Year = YearEnd

abbrev pub end_call : End → Call
end_call Month = month_end_call
end_call Year = year_end_call
