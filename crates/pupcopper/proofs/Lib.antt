pub mod BothWays
pub mod Class
pub mod EventWords
pub mod HostClaim
pub mod ReportWords
pub mod RightWords
pub mod RunWords
pub mod WordRows
