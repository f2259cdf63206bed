pub mod Arrays
pub mod BoundSizes
pub mod ChangedThings
pub mod Examples
pub mod MoreExamples
pub mod WholeNames
