pub mod Texts
pub mod Interfaces
pub mod Scripts
pub mod Serving
pub mod Servants
pub mod Laws
