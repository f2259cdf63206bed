pub mod Layout
pub mod Carrying
pub mod Reading
pub mod Moves
pub mod Telling
pub mod Policies
pub mod Publishing
pub mod Laws
