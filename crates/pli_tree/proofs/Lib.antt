pub mod Blocks
pub mod Forms
pub mod Labels
pub mod Lists
pub mod Turns
