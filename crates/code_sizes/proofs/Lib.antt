mod PieceSizes
mod ReachedSizes
mod ExpressionSizes
mod StoringSizes
mod StreamSizes
mod EntrySizes
mod StatementSizes
mod StartSizes
pub mod ProgramSizes
mod SizeRows
