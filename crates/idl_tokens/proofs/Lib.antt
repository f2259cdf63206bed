pub mod Places
pub mod Comments
pub mod OneTurn
pub mod SameKinds
