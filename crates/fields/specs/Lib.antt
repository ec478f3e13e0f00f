-- Open first: Fields.antt, then Place.antt.
pub mod Place
pub mod Fields
pub mod CodeLaws
pub mod BranchLaws
pub mod GrowLaws
