pub mod Takes
pub mod TakesMore
pub mod TakesBounds
pub mod TakesNeeds
pub mod StatementBounds
pub mod StatementNeeds
