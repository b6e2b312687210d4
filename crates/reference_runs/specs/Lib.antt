pub mod References
pub mod Receivers
pub mod ReferenceCalls
pub mod ParameterAssignments
pub mod LocalVariables
pub mod ReferenceRows
pub mod LocalRows
