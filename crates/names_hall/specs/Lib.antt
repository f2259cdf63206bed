pub mod Hands
pub mod Entering
pub mod Seats
pub mod Closing
pub mod Laws
