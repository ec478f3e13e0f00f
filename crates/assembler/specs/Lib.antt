-- Open first: Reading.antt, then ShownLaws.antt and AssemblyExamples.antt.
pub mod Reading
pub mod ShownLaws
pub mod AssemblyExamples
