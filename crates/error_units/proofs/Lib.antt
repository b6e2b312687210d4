pub mod Entries
pub mod Endings
pub mod Finding
pub mod Meaning
pub mod Errors
pub mod Conditions
pub mod Whole
