pub mod Operations
pub mod Bodies
pub mod Parameters
pub mod Meanings
pub mod Answers
pub mod Laws
