pub mod Bounding
pub mod Counting
pub mod Elements
pub mod Finding
pub mod Noting
pub mod RowLists
pub mod Walking
