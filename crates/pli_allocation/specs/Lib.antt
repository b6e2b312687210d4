pub mod Allocating
pub mod Beginnings
pub mod Placing
pub mod Popping
pub mod Referring
