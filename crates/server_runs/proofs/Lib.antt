pub mod Completing
pub mod Following
pub mod Going
pub mod Listening
pub mod Succeeding
pub mod Writing
