pub mod Counted
pub mod Counts
pub mod Notes
pub mod Orders
pub mod Walks
