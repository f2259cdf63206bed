pub mod Placing
pub mod Transforms
pub mod Laws
