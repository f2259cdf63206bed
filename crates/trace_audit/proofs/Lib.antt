pub mod Taking
pub mod Judging
pub mod Runs
pub mod Faults
pub mod Numbered
