pub mod BeginBlocks
pub mod BehindLists
pub mod InnerVariables
pub mod Unwinding
pub mod FarGotos
pub mod ThroughReturns
pub mod Rows
pub mod LeaveRows
