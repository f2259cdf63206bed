pub mod Replies
pub mod Exchanges
pub mod Calls
pub mod Laws
pub mod Bodies
pub mod Steps
