pub mod Counted
pub mod Keeping
pub mod Growing
pub mod Judging
