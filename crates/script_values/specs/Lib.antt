pub mod Trees
pub mod Operations
pub mod Leaves
pub mod Evaluation
pub mod Running
pub mod Views
pub mod Gives
pub mod Ends
