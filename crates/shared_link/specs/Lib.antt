pub mod Link
pub mod Turns
pub mod Replies
pub mod Roles
pub mod Closings
