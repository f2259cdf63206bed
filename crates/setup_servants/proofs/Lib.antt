pub mod Walks
pub mod Readings
pub mod Ends
pub mod BuiltInServed
