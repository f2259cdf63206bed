pub mod Remotes
pub mod Meaning
pub mod Choosing
pub mod Asking
pub mod Requests
pub mod Sending
