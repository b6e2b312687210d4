pub mod ValueRows
pub mod CallPieces
pub mod ActRows
pub mod OnUnitRows
pub mod BlockRows
pub mod SignatureRows
pub mod MakingRows
pub mod NameRows
pub mod AreaRows
pub mod ControlledRows
pub mod RowCalls
mod TextRows
mod EditRows
pub mod AggregatePieces
mod ElementRows
mod AggregateRows
