pub mod Parts
pub mod Lending
