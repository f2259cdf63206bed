pub mod Worn
pub mod Answered
pub mod Outcomes
pub mod Growing
pub mod Heirs
pub mod RoleLaws
pub mod Closings
