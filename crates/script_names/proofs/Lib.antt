pub mod Pairs
pub mod Outward
pub mod Listing
pub mod Walking
