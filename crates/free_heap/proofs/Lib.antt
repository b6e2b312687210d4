mod BitSteps
mod Opened
mod WalkSteps
mod MapSteps
mod Wholes
mod Calls
