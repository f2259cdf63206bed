pub mod There
pub mod Steps
pub mod Feeding
pub mod Reading
pub mod LastWords
pub mod Serving
pub mod Kept
pub mod Whole
