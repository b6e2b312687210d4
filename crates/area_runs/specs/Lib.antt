pub mod Based
pub mod BasedAssignments
pub mod Allocations
pub mod Rows
