pub mod InForms
pub mod MakingLaws
