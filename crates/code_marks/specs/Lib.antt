pub mod CodeMarks
pub mod CodeData
