pub mod ReadEnds
pub mod Framing
pub mod Hearing
pub mod Hearers
pub mod Inputs
pub mod Laws
