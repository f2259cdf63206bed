pub mod Texts
pub mod Numerals
pub mod Shown
pub mod Meant
pub mod Operations
pub mod Gives
pub mod Laws
