pub mod Apart
pub mod Meaning
pub mod Points
pub mod Names
pub mod Earlier
pub mod Laws
