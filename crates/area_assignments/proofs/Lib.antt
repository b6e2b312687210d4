mod Answers
mod Points
mod AreaCode
mod Meaning
pub mod Emptying
mod CopyRuns
pub mod Copying
pub mod Rows
