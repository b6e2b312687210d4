pub mod AreaSteps
pub mod Areas
pub mod Descriptions
pub mod Extents
pub mod Findings
pub mod Held
pub mod Variables
