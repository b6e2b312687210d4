pub mod Present
pub mod Caught
