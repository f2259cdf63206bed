pub mod Walks
pub mod Building
pub mod Readers
pub mod Orders
pub mod Written
pub mod Digits
pub mod NulWords
