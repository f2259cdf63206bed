pub mod Hearings
pub mod StreamCounts
pub mod Framing
pub mod OneMeaning
