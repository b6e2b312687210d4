pub mod Buffers
pub mod Found
pub mod Leaves
pub mod Putting
pub mod Served
pub mod Taking
