pub mod Tests
pub mod BitLaws
pub mod Gaps
pub mod Order
pub mod Links
pub mod Marking
mod Moving
pub mod Relisting
pub mod Standing
pub mod FreeStands
pub mod FreeCopies
mod FreeBytes
mod FreeRows
mod FreeKeeps
