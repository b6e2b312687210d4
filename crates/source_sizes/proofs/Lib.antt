pub mod Values
pub mod Builtins
pub mod Expressions
