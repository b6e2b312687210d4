pub mod Exits
pub mod Calls
pub mod Rows
pub mod Functions
pub mod FunctionRows
pub mod DropRows
pub mod UnitRows
