mod ListedPoints
mod PopAnswers
mod Freeing
mod AllocationCode
mod AllocationMeaning
mod PushAnswers
mod AllocationRuns
mod Allocations
pub mod Programs
mod Counts
mod Counting
pub mod Rows
