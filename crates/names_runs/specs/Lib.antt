pub mod Jobs
pub mod Giving
pub mod Starting
pub mod Runs
pub mod Lines
pub mod Complete
