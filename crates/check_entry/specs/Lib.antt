-- Open first: CheckEntry.antt.
pub mod CheckEntry
pub mod BitLaws
