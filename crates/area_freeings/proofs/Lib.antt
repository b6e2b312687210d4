mod FreeAnswers
mod FreePoints
mod FreeCode
mod FreeMeaning
mod FreeRuns
pub mod Freeing
pub mod Rows
