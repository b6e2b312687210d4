pub mod Tests
pub mod Laws
pub mod Choices
pub mod Rows
