pub mod Counts
pub mod Generated
pub mod Making
pub mod Lines
pub mod Loading
