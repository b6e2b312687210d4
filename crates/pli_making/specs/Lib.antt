pub mod InUse
pub mod Making
