pub mod Driving
pub mod Turning
pub mod Collecting
pub mod Feeding
pub mod Running
