pub mod Listed
pub mod Mentions
pub mod Names
pub mod Uses
