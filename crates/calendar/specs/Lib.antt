pub mod Almanac
pub mod Year
