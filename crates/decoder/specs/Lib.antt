-- Open first: Decode.antt, then DecodeLaws.antt.
pub mod Decode
pub mod DecodeLaws
