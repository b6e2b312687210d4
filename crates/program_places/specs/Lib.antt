pub mod Placed
pub mod Constants
pub mod Programs
pub mod Laws
pub mod Rows
pub mod Inner
pub mod Tables
