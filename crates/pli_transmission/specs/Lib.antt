pub mod Edits
pub mod Items
pub mod Transmitting
