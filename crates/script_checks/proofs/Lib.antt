pub mod Chains
pub mod Parts
pub mod Written
pub mod Missing
