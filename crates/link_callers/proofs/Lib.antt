pub mod Going
pub mod Shorts
