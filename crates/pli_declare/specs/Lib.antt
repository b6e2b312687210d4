pub mod Levels
pub mod Shown
pub mod Index
pub mod ShownBlocks
pub mod Among
