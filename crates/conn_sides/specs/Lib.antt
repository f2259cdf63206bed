pub mod Entering
pub mod ReadSides
pub mod Calling
pub mod Pieces
pub mod Saying
pub mod WriteSides
pub mod Working
