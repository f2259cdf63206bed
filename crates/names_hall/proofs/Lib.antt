mod Worn
pub mod Invoking
mod Growing
mod Giving
mod Back
mod Truly
