pub mod Shares
pub mod Natives
pub mod Rising
pub mod Halving
pub mod Lows
pub mod Orders
