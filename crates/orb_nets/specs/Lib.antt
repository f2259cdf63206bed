pub mod Nets
pub mod Asks
pub mod MemNets
