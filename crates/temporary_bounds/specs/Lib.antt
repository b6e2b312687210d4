pub mod WordBounds
pub mod Spare
pub mod Laws
