pub mod RunLines
pub mod Counts
pub mod Plans
pub mod Serving
pub mod Complete
pub mod Successive
