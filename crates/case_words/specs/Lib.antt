pub mod Names
pub mod NameLaws
pub mod RowLaws
