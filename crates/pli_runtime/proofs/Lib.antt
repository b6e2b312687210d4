pub mod Asking
pub mod Beginnings
pub mod Carried
pub mod Ends
pub mod Passing
pub mod Stacked
