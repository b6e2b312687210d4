pub mod Around
pub mod Numbers
pub mod Pieces
pub mod Places
pub mod Rows
pub mod Whole
