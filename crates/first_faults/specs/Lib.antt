pub mod Beginnings
pub mod FirstFaults
pub mod Laws
