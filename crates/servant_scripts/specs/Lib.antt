pub mod Trees
pub mod Views
pub mod Literals
pub mod Drafts
pub mod DraftView
pub mod Labels
pub mod Answers
pub mod Scripts
