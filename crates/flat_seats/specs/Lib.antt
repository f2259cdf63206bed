pub mod Flat
pub mod Bounded
