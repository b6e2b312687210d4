pub mod Enters
pub mod Units
