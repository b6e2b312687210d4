pub mod Parts
pub mod Calls
pub mod FirstNames
pub mod Waits
pub mod ShownWaits
pub mod Walks
