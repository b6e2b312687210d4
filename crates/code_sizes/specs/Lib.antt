pub mod ExpressionSizes
pub mod StoringSizes
pub mod StreamSizes
pub mod StatementSizes
pub mod StartSizes
pub mod ProgramSizes
