pub mod Setups
pub mod Brokers
