mod MarkSteps
mod Finding
mod Calls
