pub mod Calls
pub mod Forests
pub mod Nests
pub mod Parts
pub mod Within
