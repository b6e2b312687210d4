pub mod Around
pub mod Counted
pub mod HeldTaken
pub mod Placing
pub mod Taking
pub mod Walks
pub mod Weights
pub mod Wholes
