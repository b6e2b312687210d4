pub mod Elements
pub mod Numbering
pub mod Reading
pub mod View
pub mod Whole
