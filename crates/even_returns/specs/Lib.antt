-- Open first: Returns.antt.
pub mod Returns
