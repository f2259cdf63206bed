pub mod Marks
pub mod Tallies
pub mod Room
pub mod Ending
pub mod Served
pub mod Done
pub mod Replying
pub mod Quieting
