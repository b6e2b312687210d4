pub mod RowPieces
mod CodeRows
mod CountRows
mod LinkRows
mod ParameterRows
