pub mod Members
pub mod Nests
pub mod Reading
pub mod Sizes
