-- Open first: State.antt, then Core.antt and Writes.antt.
pub mod State
pub mod Writes
pub mod Core
pub mod CoreLaws
