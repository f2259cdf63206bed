pub mod Paths
pub mod Meanings
pub mod Inherited
pub mod Known
pub mod Finding
pub mod Views
pub mod Contents
pub mod Answers
