pub mod Machine
pub mod Callers
pub mod Exchange
pub mod Counting
pub mod CallPlaces
pub mod SeatHeirs
pub mod SeatLaws
pub mod Counts
