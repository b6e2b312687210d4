pub mod Words
pub mod Loops
pub mod Tables
pub mod Tabled
pub mod Refusing
pub mod Parts
