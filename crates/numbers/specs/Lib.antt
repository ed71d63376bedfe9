pub mod Limits
pub mod Lists
pub mod Refusals
pub mod Signs
pub mod Words
