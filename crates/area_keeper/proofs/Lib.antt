mod Tests
pub mod Agreement
mod Walking
mod Linking
mod Order
mod ChainData
mod ChainWrites
mod ChainBytes
mod ChainKeeps
mod ChainRows
pub mod Alikeness
mod LeastPlaces
mod WrongKeepers
