pub mod Stopping
pub mod ScriptRules
pub mod Plain
