pub mod Gathered
pub mod Pieces
