pub mod Pointers
pub mod Comparisons
pub mod Rows
