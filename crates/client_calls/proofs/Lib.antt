pub mod ShortCalls
pub mod OneResult
pub mod Readings
pub mod Meanings
pub mod Outcomes
pub mod AfterLines
pub mod WholeCalls
