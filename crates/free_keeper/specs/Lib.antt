pub mod Bits
pub mod FreeList
