-- Open first: Resumed.antt.
pub mod Resumed
pub mod GoingLaws
