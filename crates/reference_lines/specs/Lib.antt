pub mod ReferenceText
pub mod RefsText
pub mod Refs
