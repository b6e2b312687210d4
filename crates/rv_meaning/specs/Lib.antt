pub mod Words
pub mod Memory
pub mod Encoding
pub mod Machine
pub mod Tables
pub mod Images
pub mod Laws
