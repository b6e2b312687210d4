pub mod Nests
pub mod Parts
pub mod Steps
pub mod Told
pub mod Waits
