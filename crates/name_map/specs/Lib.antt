pub mod Keys
pub mod Bindings
pub mod Machine
pub mod Places
pub mod Callers
pub mod Laws
