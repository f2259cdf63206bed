pub mod Stopping
pub mod ValueRules
pub mod DeclarationRules
pub mod IdlRules
pub mod Plain
