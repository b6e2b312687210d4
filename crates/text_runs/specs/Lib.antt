pub mod Waiting
pub mod Texts
pub mod Laws
pub mod Rows
