pub mod Again
pub mod Texts
pub mod Lengths
pub mod Sendings
