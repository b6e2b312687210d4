mod GivenRuns
