pub mod Below
pub mod Counting
pub mod Stacks
pub mod Moves
pub mod LawProofs
