pub mod Shown
pub mod Parts
pub mod Firsts
pub mod Waiting
pub mod ShownWaiting
