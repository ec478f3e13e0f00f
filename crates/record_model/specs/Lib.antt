-- Open first: Record.antt, then RecordLaws.antt.
pub mod Record
pub mod PartLaws
pub mod FormLaws
