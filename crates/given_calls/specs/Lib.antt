pub mod Given
pub mod GivenCalls
pub mod GivenFunctions
pub mod GivenKnown
