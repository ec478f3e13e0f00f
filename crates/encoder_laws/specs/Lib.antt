-- Open first: EncodeLaws.antt, then AskedLaws.antt, ExactLaws.antt, FormatNumbers.antt, EncodeExamples.antt and FieldLaws.antt.
pub mod PutLaws
pub mod PlaceLaws
pub mod FormatLaws
pub mod UnusedLaws
pub mod Codes
pub mod FieldLaws
pub mod SlotLaws
pub mod EncodeLaws
pub mod AskedLaws
pub mod FormatNumbers
pub mod ExactLaws
pub mod EncodeExamples
