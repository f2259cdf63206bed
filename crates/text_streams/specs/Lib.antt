pub mod Streams
pub mod Faults
pub mod Shown
pub mod Files
