pub mod Begun
pub mod Meets
pub mod Paths
pub mod Follows
pub mod Tokens
pub mod Faults
pub mod OfTexts
