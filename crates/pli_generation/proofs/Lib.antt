pub mod Extents
pub mod Freed
