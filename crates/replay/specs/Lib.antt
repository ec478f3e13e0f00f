-- Open first: Replay.antt.
pub mod Replay
pub mod ReplayLaws
