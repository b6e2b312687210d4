pub mod Borrowed
pub mod Emitted
pub mod Fitting
pub mod Found
pub mod Marks
pub mod Placed
pub mod Places
pub mod View
