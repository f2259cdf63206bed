pub mod Asking
pub mod Inputs
pub mod Drawing
pub mod Answering
