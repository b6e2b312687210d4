pub mod Copies
pub mod Frames
pub mod Made
pub mod Parameters
pub mod Steps
pub mod Texts
