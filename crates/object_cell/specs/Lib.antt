pub mod Machine
pub mod Callers
pub mod Held
pub mod Laws
