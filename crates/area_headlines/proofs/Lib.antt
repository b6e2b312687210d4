mod ClearRuns
mod ReleaseRuns
mod FollowRuns
