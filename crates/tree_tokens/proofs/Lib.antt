mod Expressions
mod Declarations
mod Heads
pub mod Nests
mod Rows
