-- Open first: lib.rt, then Ran.antt.
pub mod Ran
