pub mod Distances
pub mod Leaves
pub mod Looping
pub mod Moving
pub mod Parts
