pub mod Entering
pub mod ShortSends
pub mod Sending
pub mod CallSteps
pub mod Copies
pub mod Arriving
pub mod ReadLaws
