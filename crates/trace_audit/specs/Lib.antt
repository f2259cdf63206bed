pub mod Verdicts
pub mod Counting
pub mod Lines
pub mod Inputs
pub mod Audit
