pub mod Mandates
