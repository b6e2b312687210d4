pub mod Compiling
pub mod Naming
pub mod Stacks
