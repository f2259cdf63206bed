pub mod StreamCounts
pub mod Framings
pub mod Messages
pub mod Hearings
pub mod OneMeaning
pub mod Feeds
pub mod Growth
pub mod Inputs
