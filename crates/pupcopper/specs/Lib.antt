pub mod Billing
pub mod BookWords
pub mod Calls
pub mod HostLedger
pub mod InnerContracts
pub mod RunCalls
