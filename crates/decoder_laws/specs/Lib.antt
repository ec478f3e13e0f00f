-- Open first: Layout.antt, then Ranges.antt and RangeLaws.antt.
pub mod Layout
pub mod Ranges
pub mod RangeLaws
