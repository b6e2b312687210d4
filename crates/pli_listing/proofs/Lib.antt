pub mod Declared
pub mod Gathered
pub mod Rows
