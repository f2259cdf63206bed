pub mod PlainRules
