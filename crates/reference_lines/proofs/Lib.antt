pub mod RefsLaws
pub mod TextForms
