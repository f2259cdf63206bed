pub mod CallerJobs
pub mod OwnReplies
pub mod WholeRuns
pub mod LossCauses
