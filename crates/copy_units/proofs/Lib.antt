pub mod Calls
pub mod Parameters
pub mod Rows
