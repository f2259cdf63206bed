pub mod AskLaws
pub mod OpenLaws
