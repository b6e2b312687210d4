mod GrammarRows
mod HeadRows
mod SourceRows
mod DeclaringRows
pub mod Unique
pub mod Views
pub mod Least
pub mod UniqueFormats
pub mod UniqueAttributes
pub mod UniqueParts
pub mod UniqueHeads
pub mod UniqueLeftOut
pub mod UniqueSource
