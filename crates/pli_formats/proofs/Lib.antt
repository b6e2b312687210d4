pub mod Calls
pub mod Forests
pub mod Nodes
pub mod Within
