pub mod ThreadList
pub mod Building
pub mod Choice
pub mod Chain
pub mod Masks
