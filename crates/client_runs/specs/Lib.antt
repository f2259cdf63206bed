pub mod Interfaces
pub mod Judging
pub mod Plans
pub mod Lines
pub mod Exchanges
pub mod Runs
