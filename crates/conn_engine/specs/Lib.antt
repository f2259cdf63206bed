pub mod HeardSoFar
pub mod Hearers
pub mod Ends
pub mod Laws
pub mod Pieces
pub mod Reads
pub mod Streams
