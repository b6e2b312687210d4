pub mod Values
pub mod Variables
pub mod Raises
pub mod OwnVariables
pub mod Laws
pub mod Assignments
pub mod Rows
