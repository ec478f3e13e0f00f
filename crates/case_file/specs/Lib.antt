-- Open first: Line.antt, then Arguments.antt and LineExamples.antt.
pub mod Arguments
pub mod Line
pub mod LineExamples
pub mod LineLaws
