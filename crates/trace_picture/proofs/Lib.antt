pub mod Drawn
pub mod Places
pub mod Homes
pub mod Eaches
pub mod Chains
pub mod Wholes
