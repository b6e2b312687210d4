pub mod FreeAnswers
pub mod FreePoints
pub mod FreeMeaning
pub mod FreeCode
pub mod FreeRuns
pub mod Freeing
