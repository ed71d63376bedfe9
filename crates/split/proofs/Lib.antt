pub mod Answers
pub mod Laws
pub mod Order
pub mod Shares
