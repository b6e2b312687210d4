pub mod Steps
pub mod Counts
pub mod EndNames
pub mod Entries
pub mod Lists
pub mod Places
pub mod Stood
