pub mod Allocations
pub mod Fits
pub mod Members
pub mod Placements
pub mod Pops
pub mod Starts
pub mod Wholes
