pub mod AllAsking
pub mod Meanings
pub mod LinesWritten
pub mod Sharing
