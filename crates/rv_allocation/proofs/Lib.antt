pub mod Placings
pub mod Walks
