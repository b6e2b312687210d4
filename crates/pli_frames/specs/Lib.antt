pub mod Beside
pub mod Blocks
pub mod Parts
pub mod Plans
pub mod TakenView
pub mod Turns
