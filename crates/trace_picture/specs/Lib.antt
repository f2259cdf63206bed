pub mod Scenes
pub mod Shapes
pub mod Plots
pub mod Marks
pub mod Grounds
pub mod Pictures
pub mod Tables
