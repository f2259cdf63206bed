pub mod Order
pub mod Placing
pub mod Changing
pub mod Keeping
pub mod Doing
pub mod MapLaws
pub mod Room
