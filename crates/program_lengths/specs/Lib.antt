pub mod Declares
pub mod StatementLengths
pub mod DeclaredLengths
pub mod ProgramLengths
pub mod TableLengths
