mod Lists
mod AroundCode
mod Finding
pub mod Reading
pub mod Assigning
pub mod Passing
pub mod Inner
