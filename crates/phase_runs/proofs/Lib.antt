pub mod Aims
pub mod Lists
pub mod Groups
pub mod Choices
pub mod Loops
pub mod Forms
pub mod Units
pub mod Signals
