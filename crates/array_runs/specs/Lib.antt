pub mod Arrays
pub mod Subscripts
pub mod Laws
pub mod Outer
