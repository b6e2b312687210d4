pub mod Writing
pub mod Skips
pub mod Edits
pub mod TextEdits
pub mod SkipRows
pub mod FormatRows
pub mod MixedEdits
