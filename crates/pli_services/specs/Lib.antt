pub mod Entering
pub mod Flowing
pub mod Shown
