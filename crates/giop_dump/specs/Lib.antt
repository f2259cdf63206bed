pub mod Lines
pub mod Ending
pub mod Dump
pub mod Steps
pub mod Growth
pub mod Written
