pub mod Blanks
pub mod Cuts
pub mod Decimals
pub mod Finding
pub mod Fitting
pub mod Padding
pub mod Sinking
