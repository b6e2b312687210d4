pub mod Marks
pub mod Granules
