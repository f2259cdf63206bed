pub mod OneWay
pub mod Lanes
pub mod Rows
