pub mod KnownFiles
pub mod Judged
pub mod Planned
pub mod Exchanging
pub mod Connecting
