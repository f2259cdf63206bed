pub mod Entering
pub mod Sending
pub mod Calling
pub mod Replying
