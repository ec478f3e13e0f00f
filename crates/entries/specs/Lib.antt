-- Open first: Entries.antt.
pub mod Entries
