pub mod LabelLaws
pub mod Continuing
pub mod Sound
pub mod Found
