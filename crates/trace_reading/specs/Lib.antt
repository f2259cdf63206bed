pub mod Words
pub mod Choices
pub mod ActionReading
pub mod RowReading
pub mod RowWords
pub mod Traces
pub mod Faults
pub mod Laws
