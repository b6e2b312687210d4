pub mod Farthest
pub mod Numbers
