pub mod Answer
pub mod Awaiting
pub mod Lines
