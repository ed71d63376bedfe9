pub mod Dates
pub mod RecordWrites
pub mod Sentences
pub mod SignedFunds
pub mod Table
pub mod WrittenOut
