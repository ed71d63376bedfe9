pub mod Answer
pub mod Bounds
pub mod Cents
pub mod Pass
pub mod Answered
pub mod Rounding
pub mod RowSums
pub mod Search
