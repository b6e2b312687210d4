pub mod Weights
pub mod Within
pub mod Light
pub mod Small
