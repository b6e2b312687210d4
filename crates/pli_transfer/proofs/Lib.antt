pub mod Arguments
pub mod Drops
pub mod Each
pub mod Pairs
pub mod Firsts
pub mod Noted
