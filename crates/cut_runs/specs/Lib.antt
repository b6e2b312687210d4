pub mod Continuing
pub mod Fronts
