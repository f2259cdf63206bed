pub mod Placed
pub mod Likeness
