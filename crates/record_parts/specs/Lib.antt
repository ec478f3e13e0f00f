-- Open first: Few.antt.
pub mod Few
