mod Tests
pub mod Order
pub mod Runs
pub mod Placing
pub mod Rooms
mod Moving
pub mod Standing
mod Headers
mod Apartness
mod GranuleStands
mod GranuleBytes
mod GranuleKeeps
mod GranuleRows
