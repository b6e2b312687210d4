pub mod Lists
pub mod Functions
pub mod Hosts
