pub mod Formats
pub mod SkipRuns
