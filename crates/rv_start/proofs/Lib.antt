mod Sorting
pub mod Steps
mod Walks
mod Weights
