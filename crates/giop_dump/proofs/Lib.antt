pub mod Counts
pub mod DumpLaws
pub mod Pieces
pub mod Runs
pub mod Growing
pub mod WrittenLaws
pub mod Facts
