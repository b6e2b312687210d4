pub mod Variables
pub mod Known
pub mod Bits
pub mod Laws
pub mod Assignments
