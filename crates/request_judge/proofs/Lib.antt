pub mod Halls
pub mod Notices
pub mod OneVerdict
pub mod Runs
