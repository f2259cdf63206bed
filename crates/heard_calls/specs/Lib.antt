pub mod Meaning
pub mod Hearing
pub mod Input
pub mod Laws
