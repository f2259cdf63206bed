pub mod Growth
pub mod Feeds
pub mod Inputs
pub mod HeardCalls
pub mod PieceRuns
pub mod Taken
pub mod ReadRuns
pub mod StreamRuns
