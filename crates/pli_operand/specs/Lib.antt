pub mod Notes
pub mod Shown
