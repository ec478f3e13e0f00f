-- Open first: lib.rt, then Found.antt.
pub mod Found
