-- Open first: OpenEntry.antt.
pub mod OpenEntry
pub mod OpenLaws
