pub mod Scalars
pub mod Fitted
pub mod Laws
pub mod Assignments
pub mod Rows
