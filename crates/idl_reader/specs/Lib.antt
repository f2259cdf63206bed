pub mod Values
pub mod Declared
pub mod Whole
pub mod Accepted
