pub mod Joined
pub mod Generated
