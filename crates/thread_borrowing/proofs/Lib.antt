pub mod Growing
pub mod Places
pub mod Chosen
pub mod Chains
pub mod MaskLaws
pub mod SetLaws
pub mod DownLaws
pub mod MarkLaws
