pub mod Stacks
pub mod Parts
pub mod Capped
pub mod Ends
pub mod Texts
