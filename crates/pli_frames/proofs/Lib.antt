pub mod Areas
mod Bodies
mod Framing
mod Most
mod Placing
mod Stopping
mod Walks
mod Weights
