pub mod Calls
pub mod InnerContracts
pub mod PrintedClaim
pub mod Run
pub mod Turns
