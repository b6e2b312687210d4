mod TypeRows
pub mod RowTrees
mod ExpressionRows
mod AssignmentRows
mod BuiltinRows
mod StorageRows
mod LocatorRows
mod CallRows
mod StatementRows
mod ExtentRows
pub mod TypedPieces
mod TypedRows
mod TypedStatementRows
mod ValueConversions
pub mod Judgements
pub mod ExpressionWeights
pub mod Resolutions
pub mod Conversions
