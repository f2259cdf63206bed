pub mod Kept
pub mod Keys
pub mod Ranks
pub mod Entries
pub mod Finding
pub mod Bounds
pub mod Next
