-- Open first: Text.antt, then Shown.antt.
pub mod Shown
pub mod Text
pub mod ShowingLaws
