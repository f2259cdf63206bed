pub mod Sameness
pub mod Owing
pub mod Working
pub mod Endings
pub mod Counting
pub mod Verdicts
pub mod Resolved
