pub mod Answers
pub mod Faults
pub mod Pieces
pub mod Scanning
pub mod Symbols
pub mod Words
