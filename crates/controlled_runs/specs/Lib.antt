pub mod Lists
pub mod Freeing
pub mod Allocations
pub mod Programs
pub mod Counting
pub mod Rows
