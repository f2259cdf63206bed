pub mod Going
pub mod Requests
