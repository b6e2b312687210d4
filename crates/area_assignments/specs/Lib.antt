pub mod Emptying
pub mod Copying
pub mod Rows
