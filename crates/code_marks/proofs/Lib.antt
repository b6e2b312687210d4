mod Pieces
mod Reached
mod Expressions
mod Stored
mod Streams
mod Statements
mod Programs
mod Numbered
mod LabelTimes
mod Once
pub mod DataOnce
