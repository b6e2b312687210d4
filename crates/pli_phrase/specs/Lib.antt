pub mod Cursor
pub mod Tokens
pub mod Reading
pub mod View
pub mod Answers
pub mod Lists
