pub mod SeatLemmas
pub mod Shorts
