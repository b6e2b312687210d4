pub mod Divisors
pub mod Extremes
pub mod Laws
pub mod Rows
