pub mod Calling
pub mod Places
pub mod Replies
