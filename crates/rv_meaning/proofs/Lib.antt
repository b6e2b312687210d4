mod MachineRows
pub mod MemoryLaws
pub mod ImageBytes
