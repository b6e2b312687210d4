pub mod Beginnings
pub mod Calls
pub mod Items
pub mod LeafLists
pub mod Leaves
pub mod Runs
pub mod Sizes
pub mod View
