-- Open first: Formats.antt, then Tables.antt and Format.antt.
pub mod Format
pub mod Tables
pub mod Formats
pub mod TableLaws
