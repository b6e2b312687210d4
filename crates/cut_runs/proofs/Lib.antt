mod Extending
mod Serving
pub mod Runs
mod Meanings
