-- Open first: Encode.antt.
pub mod Encode
