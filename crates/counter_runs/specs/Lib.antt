pub mod Words
pub mod Counters
pub mod Counts
pub mod Laws
pub mod CountRows
pub mod TallyRows
