pub mod Giving
pub mod Kept
pub mod Placing
pub mod Replying
pub mod Rows
