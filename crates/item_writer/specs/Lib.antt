pub mod Heads
pub mod ItemBytes
pub mod Shortness
