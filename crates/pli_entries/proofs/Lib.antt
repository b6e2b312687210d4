pub mod Newest
pub mod Served
pub mod Stacks
pub mod Tops
