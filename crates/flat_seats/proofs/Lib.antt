pub mod OneTree
pub mod Own
pub mod Along
pub mod Bounds
