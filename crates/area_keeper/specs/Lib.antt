pub mod Keeper
pub mod KeptAreas
pub mod KeeperLaws
pub mod Chain
