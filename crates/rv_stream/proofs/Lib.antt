pub mod Awaiting
pub mod Counting
pub mod Getting
pub mod Leading
pub mod Putting
pub mod Shapes
pub mod Storing
