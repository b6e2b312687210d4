mod Headlines
mod StackRuns
