-- Open first: Kept.antt, then Indices.antt and Places.antt.
pub mod Indices
pub mod Kept
pub mod KeptLaws
pub mod Places
pub mod PlacesLaws
pub mod Clearing
pub mod ClearingLaws
pub mod Extent
