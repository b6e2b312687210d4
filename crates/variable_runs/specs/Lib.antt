pub mod Areas
pub mod Lists
pub mod Known
pub mod Rows
