pub mod Pass
pub mod Replies
pub mod Passes
pub mod Turns
pub mod Returning
pub mod Limits
pub mod Returned
