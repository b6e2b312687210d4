pub mod Beginning
pub mod Controls
pub mod Newest
pub mod Replying
