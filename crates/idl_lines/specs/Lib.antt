pub mod Counts
pub mod Listing
pub mod Writing
pub mod Texts
pub mod Ending
