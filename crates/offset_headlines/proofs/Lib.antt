pub mod Placed
pub mod Known
pub mod Rows
pub mod Misses
pub mod Strays
pub mod Ends
