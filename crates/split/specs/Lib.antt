pub mod InnerContracts
pub mod Split
