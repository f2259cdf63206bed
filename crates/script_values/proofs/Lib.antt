pub mod Lists
pub mod Trees
pub mod Parts
pub mod Chains
pub mod Lending
