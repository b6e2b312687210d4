pub mod Invariants
pub mod AreasInOrder
pub mod Serials
pub mod Fuel
