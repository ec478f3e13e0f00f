-- Open first: Description.antt, then DescriptionLine.antt and Marking.antt.
pub mod Waiting
pub mod Description
pub mod Marking
pub mod MarkingLaws
pub mod Lists
pub mod ListsLaws
pub mod Held
pub mod Record
pub mod RecordLaws
pub mod Replay
pub mod ReplayLaws
pub mod DescriptionLine
pub mod DescriptionLineLaws
