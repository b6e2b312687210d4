pub mod Bounded
pub mod FramedNames
pub mod Sizes
pub mod Stands
pub mod Walks
pub mod Weights
