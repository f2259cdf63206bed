pub mod Begun
pub mod Opening
pub mod Counting
pub mod Reading
pub mod Laws
