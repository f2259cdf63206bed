pub mod CallerLemmas
pub mod ShownLaws
