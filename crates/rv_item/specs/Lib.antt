pub mod Distances
pub mod Elements
pub mod Ends
pub mod Lists
pub mod Moved
pub mod Pieces
pub mod Shown
pub mod Turns
