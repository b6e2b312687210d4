pub mod Offsets
pub mod OffsetAssignments
pub mod OffsetPointers
pub mod OffsetAddresses
pub mod OffsetReferences
