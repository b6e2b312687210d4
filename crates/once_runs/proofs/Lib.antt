pub mod Onces
