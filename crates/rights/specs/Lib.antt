pub mod Layout
pub mod RecordWords
pub mod GoodParts
pub mod Faults
pub mod InnerContracts
pub mod Reader
pub mod Writing
