pub mod ConstValues
pub mod Literals
pub mod Fitting
pub mod Standing
pub mod Views
