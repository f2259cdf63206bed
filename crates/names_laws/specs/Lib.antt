pub mod Serving
pub mod Alike
