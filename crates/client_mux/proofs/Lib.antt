pub mod Either
pub mod Losses
pub mod FirstReply
pub mod Sums
pub mod Length
pub mod Rooms
