pub mod Served
pub mod Requests
pub mod Answers
pub mod Judging
pub mod InHall
pub mod Calls
pub mod Laws
