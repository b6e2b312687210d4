pub mod Operands
pub mod Bits
pub mod Chosen
pub mod Ifs
pub mod Loops
pub mod Rows
