pub mod Callers
pub mod Opened
pub mod Runs
