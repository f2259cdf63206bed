pub mod Linear
pub mod Rows
pub mod Least
pub mod Maps
pub mod Shapes
pub mod Search
pub mod Laws
