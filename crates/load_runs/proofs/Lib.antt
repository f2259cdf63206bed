pub mod Past
pub mod Pieces
pub mod Requests
pub mod Patterns
pub mod Made
pub mod Heard
pub mod Runs
