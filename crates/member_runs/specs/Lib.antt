pub mod Members
pub mod MemberAssignments
pub mod MemberPointers
pub mod NullMembers
pub mod Allocations
