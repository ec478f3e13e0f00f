-- Open first: Words.antt, then Sections.antt.
pub mod Words
pub mod WordLaws
pub mod Sections
pub mod SectionLaws
pub mod FoundLaws
