pub mod Rooted
pub mod Stacks
