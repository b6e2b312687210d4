pub mod Raises
pub mod Rows
