pub mod Offers
pub mod Lines
pub mod Texts
pub mod Writing
pub mod ReadBack
pub mod Plain
pub mod Numbers
pub mod Summaries
