pub mod Binding
pub mod Bands
