pub mod Known
pub mod Judging
pub mod Reading
pub mod Tables
pub mod Each
pub mod LeastKey
pub mod RulesHold
