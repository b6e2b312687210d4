pub mod Phases
pub mod Forms
pub mod Units
pub mod Signals
pub mod Laws
