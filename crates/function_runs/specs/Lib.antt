pub mod Functions
pub mod Returns
pub mod FunctionCalls
pub mod OuterVariables
pub mod Rows
pub mod LocalRows
