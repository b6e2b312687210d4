pub mod Ahead
pub mod Pieces
pub mod Turning
