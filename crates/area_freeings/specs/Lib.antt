pub mod Freeing
pub mod Rows
