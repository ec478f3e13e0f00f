-- Open first: Terms.antt, then Statement.antt, Theorem.antt and Evidence.antt.
pub mod Terms
pub mod Statement
pub mod SameLaws
pub mod StateLaws
pub mod BufferLaws
pub mod TriesLaws
pub mod Examples
pub mod ReplayEvidence
