pub mod Constants
pub mod Headlines
