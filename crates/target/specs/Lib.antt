pub mod InnerContracts
pub mod Rounding
pub mod Rows
pub mod Target
