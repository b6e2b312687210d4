pub mod Rising
pub mod Trimming
pub mod Stacking
