pub mod Bounding
pub mod Boxes
pub mod Lists
pub mod Parting
pub mod Places
pub mod Recording
pub mod Running
