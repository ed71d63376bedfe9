pub mod AlmanacLaws
pub mod DayTable
pub mod Hours
pub mod MonthEnds
pub mod Year2025
