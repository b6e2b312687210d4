pub mod Counts
pub mod Fittings
pub mod Growing
pub mod Limits
pub mod Makings
