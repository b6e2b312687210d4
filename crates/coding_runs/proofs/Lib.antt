pub mod RowPieces
pub mod FormPieces
pub mod Running
pub mod StorageMachine
mod BlockRuns
mod ConditionRuns
mod StreamRuns
mod StorageRuns
mod AreaRuns
mod KeeperRuns
mod FormRuns
mod PointerRuns
mod ParameterRuns
mod ArraysApart
mod UnitKinds
mod CountRuns
mod SavedRuns
mod SubscriptRuns
mod ArrayRuns
