pub mod Nested
pub mod NestedCalls
pub mod NestedFunctions
pub mod NestedVariables
pub mod FullVariables
