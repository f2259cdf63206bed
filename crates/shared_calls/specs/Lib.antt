pub mod Asking
pub mod Results
pub mod Lines
pub mod Runs
