mod Steps
mod StoredParts
mod Runs
mod Areas
mod Numbers
mod FuelSteps
mod FuelParts
mod FuelRuns
